-- What the model of a line means.
use Rattle.std.specs.Prelude.{ℕ, zero, suc, List, [], ◌∷◌, length, Some, None, Option}
use Rattle.plain_model.specs.declared.line_op.LineOp.{LineOp}
use Rattle.plain_model.specs.declared.line_op.LineAnswer.{LineAnswer}
use Rattle.boards.specs.Board.{Meaning}
use Rattle.line_model.specs.declared.node.Node.{Node}
use Rattle.line_model.specs.Nodes.{next_of, element_of}
use Rattle.line_model.specs.Seats.{seat_of, station_of}
use Rattle.line_model.specs.Line.{LineModel, has_space}
use Rattle.line_model.specs.Distance.{needs}

module _ {E : Type 0} where
  abbrev pub prepend : Option E → List E → List E
  prepend None xs = xs
  prepend (Some e) xs = e ∷ xs

  -- the elements after node a, if there are at most k
  abbrev pub after : ℕ → List (Node E) → ℕ → List E
  after zero ns a = []
  after (suc k) ns a = elim (next_of ns a) [ None ↦ [] | Some b ↦ prepend (element_of ns b) (after k ns b) ]

  -- the elements after Head's node
  abbrev pub contents : LineModel E → List E
  contents m = after m.taken m.nodes m.head

  abbrev pub means : Meaning (LineModel E) (List E) (LineOp E) (LineAnswer E)
  means = record {
    stations = λ m. length m.seats;
    bound = λ m. 11;
    contents = contents;
    station = λ m p. station_of (seat_of m.seats p);
    distance = λ m p. needs m.nodes m.head m.tail (seat_of m.seats p);
    space = has_space;
  }
