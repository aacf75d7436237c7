-- What stands at a place of a list after one place is written.
use Rattle.std.proofs.Common.{◌≡◌, ℕ, zero, suc, ◌<◌, ◌≢◌, List, [], ◌∷◌, length, set, Some, sym, refl, ap, arith}
use Rattle.std.specs.List.{slice_get}
use Rattle.line_model.specs.Nodes.{changed}

module _ {X : Type 0} where
  pub nth_there : (xs : List X) (i : ℕ) → i < length xs → (x : X) × (slice_get xs i ≡ Some x)
  nth_there [] i h = absurd (omega arith)
  nth_there (x ∷ xs) zero h = (x, refl)
  nth_there (x ∷ xs) (suc i) h = nth_there xs i (omega arith)

  pub nth_set_same : (xs : List X) (i : ℕ) (x : X) → i < length xs → slice_get (set xs i x) i ≡ Some x
  nth_set_same [] i x h = absurd (omega arith)
  nth_set_same (y ∷ xs) zero x h = refl
  nth_set_same (y ∷ xs) (suc i) x h = nth_set_same xs i x (omega arith)

  pub nth_set_other : (xs : List X) (i j : ℕ) (x : X) → j ≢ i → slice_get (set xs i x) j ≡ slice_get xs j
  nth_set_other [] i j x h = refl
  nth_set_other (y ∷ xs) zero zero x h = absurd (h refl)
  nth_set_other (y ∷ xs) zero (suc j) x h = refl
  nth_set_other (y ∷ xs) (suc i) zero x h = refl
  nth_set_other (y ∷ xs) (suc i) (suc j) x h = nth_set_other xs i j x (λ e. h (ap suc e))

  module _ (f : X → X) where
    pub changed_length : (xs : List X) (i : ℕ) → length (changed f xs i) ≡ length xs
    changed_length [] i = refl
    changed_length (x ∷ xs) zero = refl
    changed_length (x ∷ xs) (suc i) = ap suc (changed_length xs i)

    pub changed_same : (xs : List X) (i : ℕ) (x : X) → slice_get xs i ≡ Some x → slice_get (changed f xs i) i ≡ Some (f x)
    changed_same [] i x e = let z : ◌≡◌ {A = ℕ} 0 1 = cc in absurd (omega arith)
    changed_same (y ∷ xs) zero x e = let z : y ≡ x = cc in ap (λ (u : X). Some (f u)) z
    changed_same (y ∷ xs) (suc i) x e = changed_same xs i x e

    pub changed_other : (xs : List X) (i j : ℕ) → j ≢ i → slice_get (changed f xs i) j ≡ slice_get xs j
    changed_other [] i j h = refl
    changed_other (y ∷ xs) zero zero h = absurd (h refl)
    changed_other (y ∷ xs) zero (suc j) h = refl
    changed_other (y ∷ xs) (suc i) zero h = refl
    changed_other (y ∷ xs) (suc i) (suc j) h = changed_other xs i j (λ e. h (ap suc e))

    -- a write of f of what was read is a change
    pub changed_set : (xs : List X) (i : ℕ) (x : X) → slice_get xs i ≡ Some x → set xs i (f x) ≡ changed f xs i
    changed_set [] i x e = refl
    changed_set (y ∷ xs) zero x e = let z : y ≡ x = cc in ap (λ (u : X). f u ∷ xs) (sym z)
    changed_set (y ∷ xs) (suc i) x e = ap (λ (zs : List X). y ∷ zs) (changed_set xs i x e)
