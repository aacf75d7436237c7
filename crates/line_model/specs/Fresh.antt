-- Making a line: what is refused, and the line that is made.
use Rattle.std.specs.Prelude.{ℕ, ◌+◌, cond, ◌&&◌, List, map, take, replicate, None, Ok, Err, Result, nat_le, nat_lt}
use Rattle.keys.specs.declared.refusal.Refusal.{Refusal}
use Rattle.keys.specs.declared.refusal.Refusal.TheVariants.{StationCount, LineSize, ShortTable}
use Rattle.line_model.specs.declared.node.Node.{Node}
use Rattle.line_model.specs.declared.seat.Seat.TheVariants.{Free}
use Rattle.line_model.specs.Nodes.{toward}
use Rattle.line_model.specs.Line.{LineModel}

-- nothing is refused
abbrev pub fine : Result (Unit {0}) Refusal
fine = Ok tt

-- What a check says of s stations and m nodes, over a node table and a station table of these lengths.
abbrev pub checked : ℕ → ℕ → ℕ → ℕ → Result (Unit {0}) Refusal
checked s m nodes seats =
    cond (nat_le 1 s && nat_le s 16)
    (cond (nat_le 1 m && nat_le m 512) (cond (nat_lt m nodes && nat_le s seats) fine (Err ShortTable)) (Err LineSize))
    (Err StationCount)

-- A line over the first m + 1 nodes of a table, on which nothing has been done, with s stations.
abbrev pub front : {E : Type 0} → ℕ → ℕ → List (Node E) → LineModel E
front s m ns = record { nodes = take (m + 1) ns; taken = 1; head = 0; tail = 0; seats = replicate s Free }

-- every next cell is none, and the elements stay
abbrev pub unlinked : {E : Type 0} → List (Node E) → List (Node E)
unlinked ns = map (toward None) ns

-- A line of s stations and m nodes besides the dummy, over a node table of any content.
abbrev pub fresh : {E : Type 0} → ℕ → ℕ → List (Node E) → LineModel E
fresh s m ns = front s m (unlinked ns)
