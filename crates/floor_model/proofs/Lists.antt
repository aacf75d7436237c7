-- Lists: places in them, one more element at the end, and replays.
use Rattle.std.proofs.Common.{◌≡◌, ℕ, zero, suc, ◌⊎◌, List, [], ◌∷◌, ◌++◌, map, length, get_or, replicate, Some, refl, ap, ◌∙◌, inl, inr, ⊎_elim, arith}
use Rattle.std.specs.List.{slice_get}
use Rattle.plain_model.specs.Machine.{Machine, replay}
use Rattle.floor_model.specs.declared.line.Line.{Line}

-- what follows from two constructors being equal
pub impossible : {X : Type 0} → ◌≡◌ {A = ℕ} 0 1 → X
impossible e = absurd (omega arith)

pub get_d_zeros : (n p : ℕ) → ◌≡◌ {A = ℕ} (get_or (replicate n 0) p 0) 0
get_d_zeros zero p = refl
get_d_zeros (suc n) zero = refl
get_d_zeros (suc n) (suc p) = get_d_zeros n p

pub nth_keep : {X : Type 0} (xs ys : List X) (n : ℕ) (x : X) → slice_get xs n ≡ Some x → slice_get (xs ++ ys) n ≡ Some x
nth_keep [] ys n x e = impossible (cc)
nth_keep (y ∷ xs) ys zero x e = e
nth_keep (y ∷ xs) ys (suc n) x e = nth_keep xs ys n x e

pub nth_new : {X : Type 0} (xs : List X) (x : X) → slice_get (xs ++ x ∷ []) (length xs) ≡ Some x
nth_new [] x = refl
nth_new (y ∷ xs) x = nth_new xs x

-- what stands in a list with one more element stood in it, or is that element
pub nth_cases : {X : Type 0} (xs : List X) (y : X) (n : ℕ) (x : X) → slice_get (xs ++ y ∷ []) n ≡ Some x → (slice_get xs n ≡ Some x) ⊎ ((n ≡ length xs) × (y ≡ x))
nth_cases [] y zero x e = inr (refl, cc)
nth_cases [] y (suc n) x e = impossible (cc)
nth_cases (z ∷ xs) y zero x e = inl e
nth_cases (z ∷ xs) y (suc n) x e = ⊎_elim inl (λ r. inr (ap suc r.0, r.1)) (nth_cases xs y n x e)

-- a replay that was right so far goes on with one more line
pub replay_line : {Plain Op Answer Item : Type 0} (plain : Machine Plain Op Answer Item) (ls : List (Line Op Answer)) (l : Line Op Answer) (was now then : Plain) →
    replay plain (map (λ k. k.operation) ls) was ≡ (now, map (λ k. k.answer) ls) → plain.apply l.operation now ≡ (then, l.answer) →
    replay plain (map (λ k. k.operation) (ls ++ l ∷ [])) was ≡ (then, map (λ k. k.answer) (ls ++ l ∷ []))
replay_line plain [] l was now then e d =
    let here : was ≡ now = ap (λ x. x.0) e in
    ap (λ x. (x.0, x.1 ∷ [])) (ap (plain.apply l.operation) here ∙ d)
replay_line plain (k ∷ ls) l was now then e d =
    let next = plain.apply k.operation was in
    let more = replay plain (map (λ j. j.operation) ls) next.0 in
    let state : more.0 ≡ now = ap (λ x. x.0) e in
    let all : (next.1 ∷ more.1) ≡ (k.answer ∷ map (λ j. j.answer) ls) = ap (λ x. x.1) e in
    let first : next.1 ≡ k.answer = cc in
    let rest : more.1 ≡ map (λ j. j.answer) ls = cc in
    let on = replay_line plain ls l next.0 now then (λ i. (state i, rest i)) d in
    λ i. ((on i).0, first i ∷ (on i).1)
