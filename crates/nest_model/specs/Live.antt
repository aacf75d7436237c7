-- The registers that the touches to come still read, and how far a station is from its answer.
use Rattle.std.specs.Prelude.{◌≡◌, ℕ, ◌+◌, Bool, cond, Some, Option}
use Rattle.nest_model.specs.declared.cell.Cell.{Cell}
use Rattle.nest_model.specs.declared.phase.Phase.{Phase}
use Rattle.nest_model.specs.declared.phase.Phase.TheVariants.{N1, N2, N3, N4, N5, N6}
use Rattle.nest_model.specs.declared.registers.Registers.{Registers}
use Rattle.nest_model.specs.Ends.{Extended}
use Rattle.nest_model.specs.Cells.{front, node, link, same_cell}
use Rattle.nest_model.specs.Chain.{steps_to_back, clean}

-- a phase with its live registers
pub data Live : Type 0 where
  Start : Live
  -- keep, keptnext, next
  Walk : ℕ → ℕ → ℕ → Live
  Skip : ℕ → ℕ → ℕ → Live
  -- keep, keptnext, here
  Unlink : ℕ → ℕ → ℕ → Live
  -- here, next
  Insert : ℕ → ℕ → Live
  Strike : ℕ → ℕ → Live

abbrev pub live : Phase → Registers → Live
live N1 r = Start
live N2 r = Walk (node r.keep) (node r.keptnext) (node r.next)
live N3 r = Skip (node r.keep) (node r.keptnext) (node r.next)
live N4 r = Unlink (node r.keep) (node r.keptnext) (node r.here)
live N5 r = Insert (node r.here) (node r.next)
live N6 r = Strike (node r.here) (node r.next)

-- a register is set, and names a node
abbrev pub Names : Option ℕ → Type 0
Names n = n ≡ Some (node n)

-- the live registers are set
abbrev pub AllSet : Phase → Registers → Type 0
AllSet N1 r = Unit {0}
AllSet N2 r = Names r.keep × Names r.keptnext × Names r.next
AllSet N3 r = Names r.keep × Names r.keptnext × Names r.next
AllSet N4 r = Names r.keep × Names r.keptnext × Names r.here
AllSet N5 r = Names r.here × Names r.next
AllSet N6 r = Names r.here × Names r.next

-- a cell still is an unmarked one with this next node
abbrev pub still : Cell → ℕ → Bool
still d n = same_cell d (link (Some n))

-- At most how many of its own touches a station needs while no other is touched. Where the cell that it is going to set
-- was changed, it has to start again; one more start is needed to take dropped nodes at the key's place out of the chain.
abbrev pub remaining : {K : Type 0} → (K → K → Bool) → (ℕ → Cell) → (ℕ → Extended K) → ℕ → K → Live → ℕ
remaining before cell key size k Start = cond (clean before cell key k (size + 2) front) (size + 2) (size + size + 5)
remaining before cell key size k (Walk keep keptnext next) =
    steps_to_back cell (size + 2) next +
    cond (still (cell keep) keptnext) (cond (clean before cell key k (size + 2) front) 1 (size + 4)) (size + size + 7)
remaining before cell key size k (Skip keep keptnext next) =
    steps_to_back cell (size + 2) next + cond (still (cell keep) keptnext) (size + 4) (size + size + 7)
remaining before cell key size k (Unlink keep keptnext here) = cond (still (cell keep) keptnext) (size + 3) (size + size + 6)
remaining before cell key size k (Insert here next) = cond (still (cell here) next) 1 (size + size + 6)
remaining before cell key size k (Strike here next) = cond (still (cell here) next) 1 (size + size + 6)
