-- The chain of nodes from the front to the back, and folds along it.
use Rattle.std.specs.Prelude.{◌≡◌, ℕ, zero, suc, Bool, true, false, cond, not, ◌≢◌, List, [], ◌∷◌, Some, None, Option, ◌==◌}
use Rattle.nest_model.specs.declared.cell.Cell.{Cell}
use Rattle.nest_model.specs.Ends.{Extended, Low, Mid, High, lt}
use Rattle.nest_model.specs.Cells.{back, node}

-- the node that a node's cell names
abbrev pub after : (ℕ → Cell) → ℕ → ℕ
after cell n = node (cell n).next

-- a fold over so many nodes at most, from a node on and up to the back
abbrev pub fold : {A : Type 0} → (ℕ → Cell) → (ℕ → A → A) → A → ℕ → ℕ → A
fold cell s z zero n = z
fold cell s z (suc f) n = cond (n == back) z (s n (fold cell s z f (after cell n)))

-- the steps from a node to the back
abbrev pub steps_to_back : (ℕ → Cell) → ℕ → ℕ → ℕ
steps_to_back cell f n = fold cell (λ i r. suc r) 0 f n

module _ {K : Type 0} where
  abbrev pub push : Extended K → List K → List K
  push Low r = r
  push (Mid k) r = k ∷ r
  push High r = r

  -- the keys of the unmarked nodes
  abbrev pub listing : (ℕ → Cell) → (ℕ → Extended K) → ℕ → ℕ → List K
  listing cell key f n = fold cell (λ i r. cond (cell i).mark r (push (key i) r)) [] f n

  -- the key that a node gives to the listing, by its mark
  abbrev pub listed : Bool → Extended K → Option K
  listed true x = None
  listed false Low = None
  listed false (Mid k) = Some k
  listed false High = None

  abbrev pub enlist : Option K → List K → List K
  enlist None r = r
  enlist (Some k) r = k ∷ r

  -- whether the last node before k's place is unmarked
  abbrev pub clean : (K → K → Bool) → (ℕ → Cell) → (ℕ → Extended K) → K → ℕ → ℕ → Bool
  clean before cell key k f n = fold cell (λ i r. cond (lt before (Mid k) (key (after cell i))) (not (cell i).mark) r) true f n

-- the chain leads from n to u
pub data Reach (cell : ℕ → Cell) (u : ℕ) : ℕ → Type 0 where
  at : Reach cell u u
  via : {n : ℕ} → n ≢ back → Reach cell u (after cell n) → Reach cell u n

-- n leads to u through marked nodes
pub data Leads (cell : ℕ → Cell) (u : ℕ) : ℕ → Type 0 where
  at : Leads cell u u
  via : {n : ℕ} → (cell n).mark ≡ true → Leads cell u (after cell n) → Leads cell u n
