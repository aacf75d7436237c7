-- The plain line: a list of elements, put at its end and taken from its front.
use Rattle.std.specs.Prelude.{Bool, true, false, List, [], ◌∷◌, ◌++◌, Some, None, Option}
use Rattle.plain_model.specs.declared.line_op.LineOp.{LineOp}
use Rattle.plain_model.specs.declared.line_op.LineOp.TheVariants as op
use Rattle.plain_model.specs.declared.line_op.LineAnswer.{LineAnswer}
use Rattle.plain_model.specs.declared.line_op.LineAnswer.TheVariants.{Put, Took, Empty}
use Rattle.plain_model.specs.Machine.{Machine}

module _ {E : Type 0} where
  -- the first element, if there is one, and the rest
  abbrev pub take : List E → List E × Option E
  take [] = ([], None)
  take (x ∷ xs) = (xs, Some x)

  abbrev pub taken : Option E → LineAnswer E
  taken None = Empty
  taken (Some x) = Took x

  abbrev pub apply : LineOp E → List E → List E × LineAnswer E
  apply (op.Put x) xs = (xs ++ x ∷ [], Put)
  apply op.Take xs = ((take xs).0, taken (take xs).1)

  -- only a put makes the line grow
  abbrev pub grows : LineOp E → Bool
  grows (op.Put x) = true
  grows op.Take = false

  abbrev pub line : Machine (List E) (LineOp E) (LineAnswer E) E
  line = record { empty = []; apply = apply; listed = λ xs. xs }
