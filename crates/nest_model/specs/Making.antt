-- How a nest is made.
use Rattle.std.specs.Prelude.{ℕ, ◌+◌, Bool, cond, ◌&&◌, List, take, replicate, Some, None, Ok, Err, Result, nat_le}
use Rattle.keys.specs.declared.refusal.Refusal.{Refusal}
use Rattle.keys.specs.declared.refusal.Refusal.TheVariants.{StationCount, NestSize, ShortTable}
use Rattle.nest_model.specs.declared.node.Node.{Node}
use Rattle.nest_model.specs.declared.work.Work.TheVariants.{Free}
use Rattle.nest_model.specs.Cells.{front, back, link, written}
use Rattle.nest_model.specs.Model.{NestModel}

-- the nodes' and the stations' tables are long enough
abbrev pub is_long : ℕ → ℕ → ℕ → ℕ → Bool
is_long stations size nodes works = nat_le (size + 2) nodes && nat_le stations works

abbrev pub accepted : Result (Unit {0}) Refusal
accepted = Ok tt

-- a nest with so many stations and nodes for keys, over tables of these lengths
abbrev pub refusal : ℕ → ℕ → ℕ → ℕ → Result (Unit {0}) Refusal
refusal stations size nodes works =
    cond (nat_le 1 stations && nat_le stations 16)
    (cond (nat_le 1 size && nat_le size 512) (cond (is_long stations size nodes works) accepted (Err ShortTable)) (Err NestSize))
    (Err StationCount)

-- the front leads to the back
abbrev pub joined : {K : Type 0} → List (Node K) → List (Node K)
joined ns = written (written ns front (link (Some back))) back (link None)

-- The nest that is made: the front leads to the back, no node is taken, and every station is free. Surplus of the tables is dropped.
abbrev pub made : {K : Type 0} → ℕ → ℕ → List (Node K) → NestModel K
made stations size ns = record {
  size = size;
  taken = 0;
  nodes = joined (take (size + 2) ns);
  works = replicate stations Free;
}
