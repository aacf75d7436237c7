-- A listing that is written item by item over the front of a list.
use Rattle.std.proofs.Common.{◌≡◌, ℕ, zero, suc, ◌+◌, ◌<◌, ◌≤◌, false, List, [], ◌∷◌, length, take, set, is_some, Some, None, Option, sym, refl, ap, ◌∙◌, add-one, arith}
use Rattle.std.specs.List.{slice_get}
use Rattle.std.proofs.lemmas.List.{take_all}
use Rattle.boards.specs.Board.{over}
use Rattle.pair_model.proofs.PairStations.{never}

module _ {X : Type 0} where
  -- there is nothing at a place only past the list
  pub nth_none : (xs : List X) (i : ℕ) → slice_get xs i ≡ None → length xs ≤ i
  nth_none [] i e = omega arith
  nth_none (x ∷ xs) zero e = let z : ◌≡◌ {A = ℕ} 0 1 = cc in absurd (omega arith)
  nth_none (x ∷ xs) (suc i) e = let h = nth_none xs i e in omega arith

  -- one more item written over the front of a list
  over_suc : (xs ys : List X) (k : ℕ) (x : X) → slice_get xs k ≡ Some x → k < length ys → set (over (take k xs) ys) k x ≡ over (take (suc k) xs) ys
  over_suc [] ys k x e room = let z : ◌≡◌ {A = ℕ} 0 1 = cc in absurd (omega arith)
  over_suc (y ∷ xs) [] k x e room = absurd (omega arith)
  over_suc (y ∷ xs) (z ∷ ys) zero x e room = let same : x ≡ y = cc in ap (λ w. w ∷ ys) same
  over_suc (y ∷ xs) (z ∷ ys) (suc k) x e room = ap (λ w. y ∷ w) (over_suc xs ys k x e (omega arith))

  pub over_more : (xs ys : List X) (k : ℕ) (x : X) → slice_get xs k ≡ Some x → k < length ys → set (over (take k xs) ys) k x ≡ over (take (k + 1) xs) ys
  over_more xs ys k x e room = over_suc xs ys k x e room ∙ ap (λ n. over (take n xs) ys) (sym (add-one k))

  pub over_all : (xs ys : List X) (k : ℕ) → length xs ≤ k → over (take k xs) ys ≡ over xs ys
  over_all xs ys k all = ap (λ zs. over zs ys) (take_all k xs all)

-- a listing fits into so many places where there is no item past them
pub fits_within : {X : Type 0} (xs : List X) (n : ℕ) → is_some (slice_get xs n) ≡ false → length xs ≤ n
fits_within {X = X} xs n e = within (slice_get xs n) refl e
  where
    within : (o : Option X) → slice_get xs n ≡ o → is_some o ≡ false → length xs ≤ n
    within None at no-some = nth_none xs n at
    within (Some x) at no-some = never no-some
