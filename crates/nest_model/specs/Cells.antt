-- How the node table is read and written.
use Rattle.std.specs.Prelude.{ℕ, zero, suc, Bool, true, false, cond, not, ◌&&◌, List, Some, None, Option, ◌==◌, slice_set}
use Rattle.std.specs.List.{slice_get}
use Rattle.nest_model.specs.declared.cell.Cell.{Cell}
use Rattle.nest_model.specs.declared.node.Node.{Node}
use Rattle.nest_model.specs.Ends.{Extended, Low, Mid, High}

-- the front and the back of the chain; the nodes of keys come after them
abbrev pub front : ℕ
front = 0

abbrev pub back : ℕ
back = 1

-- the node that a register or a cell names; where it names none, the back
abbrev pub node : Option ℕ → ℕ
node None = back
node (Some n) = n

-- an unmarked cell, and a marked one
abbrev pub link : Option ℕ → Cell
link n = record { next = n; mark = false }

abbrev pub gone : Option ℕ → Cell
gone n = record { next = n; mark = true }

abbrev pub same_node : Option ℕ → Option ℕ → Bool
same_node None None = true
same_node None (Some n) = false
same_node (Some m) None = false
same_node (Some m) (Some n) = m == n

abbrev pub same_mark : Bool → Bool → Bool
same_mark true b = b
same_mark false b = not b

abbrev pub same_cell : Cell → Cell → Bool
same_cell d e = same_node d.next e.next && same_mark d.mark e.mark

module _ {K : Type 0} where
  -- past the table stands nothing: an unmarked cell without next, and no key before the back's
  abbrev pub cell_in : Option (Node K) → Cell
  cell_in None = link None
  cell_in (Some x) = x.cell

  abbrev pub key_in : Option (Node K) → Extended K
  key_in None = High
  key_in (Some x) = Mid x.key

  abbrev pub cell_at : List (Node K) → ℕ → Cell
  cell_at ns n = cell_in (slice_get ns n)

  abbrev pub key_at : List (Node K) → ℕ → Extended K
  key_at ns zero = Low
  key_at ns (suc zero) = High
  key_at ns (suc (suc i)) = key_in (slice_get ns (suc (suc i)))

  -- a node's cell is set, and its key stays
  abbrev pub written_to : List (Node K) → ℕ → Cell → Option (Node K) → List (Node K)
  written_to ns n d None = ns
  written_to ns n d (Some x) = slice_set ns n (record { key = x.key; cell = d })

  abbrev pub written : List (Node K) → ℕ → Cell → List (Node K)
  written ns n d = written_to ns n d (slice_get ns n)

  -- compare-and-set: whether a node's cell is `old`, and the table after it was set to `new` in that case
  abbrev pub holds : List (Node K) → Option ℕ → Cell → Bool
  holds ns n old = same_cell (cell_at ns (node n)) old

  abbrev pub exchanged : List (Node K) → Option ℕ → Cell → Cell → List (Node K)
  exchanged ns n old new = cond (holds ns n old) (written ns (node n) new) ns
