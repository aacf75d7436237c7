-- Reading and writing the node table.
use Rattle.std.specs.Prelude.{ℕ, zero, suc, Bool, true, false, List, [], ◌∷◌, Some, None, Option}
use Rattle.std.specs.List.{slice_get}
use Rattle.line_model.specs.declared.node.Node.{Node}

abbrev pub is_node : Option ℕ → Bool
is_node None = false
is_node (Some b) = true

-- the list with f of what stands at a place there
abbrev pub changed : {X : Type 0} → (X → X) → List X → ℕ → List X
changed f [] i = []
changed f (x ∷ xs) zero = f x ∷ xs
changed f (x ∷ xs) (suc i) = x ∷ changed f xs i

module _ {E : Type 0} where
  abbrev pub next_in : Option (Node E) → Option ℕ
  next_in None = None
  next_in (Some x) = x.next

  abbrev pub element_in : Option (Node E) → Option E
  element_in None = None
  element_in (Some x) = Some x.element

  -- the next cell of node a
  abbrev pub next_of : List (Node E) → ℕ → Option ℕ
  next_of ns a = next_in (slice_get ns a)

  abbrev pub element_of : List (Node E) → ℕ → Option E
  element_of ns a = element_in (slice_get ns a)

  -- a node whose next cell is set to n
  abbrev pub toward : Option ℕ → Node E → Node E
  toward n x = record { element = x.element; next = n }

  -- the table after node a's next cell is set to node b
  abbrev pub link : List (Node E) → ℕ → ℕ → List (Node E)
  link ns a b = changed (toward (Some b)) ns a
