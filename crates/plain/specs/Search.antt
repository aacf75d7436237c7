-- Where a key stands in a list, and where it belongs.
use Rattle.std.specs.Prelude.{◌≡◌, ℕ, ◌<◌, ◌≤◌, Bool, true, false, ◌&&◌, List, [], ◌∷◌, length, Some, None, Option}
use Rattle.std.specs.List.{insert as inserted, remove as removed}
use Rattle.plain_model.specs.Nest.{has, insert, remove}

module _ {K : Type 0} (before : K → K → Bool) where
  -- None tells that k is not in the list, Some the place from which it is removed
  abbrev pub Stands : K → List K → Option ℕ → Type 0
  Stands k xs None = has before k xs ≡ false
  Stands k xs (Some i) = (i < length xs) × (has before k xs ≡ true) × (remove before k xs ≡ removed xs i)

  -- k is inserted at the place
  abbrev pub Belongs : K → List K → ℕ → Type 0
  Belongs k xs i = (i ≤ length xs) × (insert before k xs ≡ inserted xs i k)

  -- every key of the list is before k
  abbrev pub all_before : K → List K → Bool
  all_before k [] = true
  all_before k (x ∷ xs) = before x k && all_before k xs
