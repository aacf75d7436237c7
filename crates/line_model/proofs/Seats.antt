-- Reading and writing one seat of the station table.
use Rattle.std.proofs.Common.{◌≡◌, ℕ, ◌-◌, ◌<◌, ◌≤◌, Bool, true, false, leb, ◌≢◌, List, length, get_or, set, sym, refl, ap, ◌∙◌, inl, inr, arith, get_or-set_other, get_or-set_same}
use lib.ListN.{get_or-eq_default}
use lib.Seq.{set_out}
use Rattle.std.proofs.lemmas.Bool.{leb-true, le-leb, lt-leb, cond_both, cases_lt, cases_eq}
use Rattle.line_model.specs.declared.seat.Seat.{Seat}
use Rattle.line_model.specs.declared.seat.Seat.TheVariants.{Free}
use Rattle.line_model.specs.Seats.{seat_of, is_free_seat}
use Rattle.line_model.specs.Within.{in_seat}

module _ {E : Type 0} where
  pub seat_past : (ss : List (Seat E)) (p : ℕ) → length ss < p → seat_of ss p ≡ Free
  seat_past ss p h =
      cond_both (leb 1 p) (get_or ss (p - 1) Free) Free (λ x. x ≡ Free)
      (λ _. get_or-eq_default ss Free {n = p - 1} (omega arith)) (λ _. refl)

  pub seat_none : (ss : List (Seat E)) (p : ℕ) → p < 1 → seat_of ss p ≡ Free
  seat_none ss p h = rw (lt-leb 1 p h)

  pub seat_same : (ss : List (Seat E)) (p : ℕ) (s : Seat E) → 1 ≤ p → p ≤ length ss → seat_of (set ss (p - 1) s) p ≡ s
  seat_same ss p s h k = rw (le-leb 1 p h) (get_or-set_same ss (p - 1) s Free (omega arith))

  pub seat_other : (ss : List (Seat E)) (p q : ℕ) (s : Seat E) → 1 ≤ p → q ≢ p → seat_of (set ss (p - 1) s) q ≡ seat_of ss q
  seat_other ss p q s h n = go (leb 1 q) refl
    where
      go : (b : Bool) → leb 1 q ≡ b → seat_of (set ss (p - 1) s) q ≡ seat_of ss q
      go true e = let l = leb-true 1 q e in rw e (get_or-set_other ss (p - 1) (q - 1) s Free (omega arith))
      go false e = rw e

  -- a station that is not free exists
  pub seat_there : (ss : List (Seat E)) (p : ℕ) → is_free_seat (seat_of ss p) ≡ false → (1 ≤ p) × (p ≤ length ss)
  seat_there ss p h =
      elim (cases_lt p 1) [
        | inl l ↦ no_free (seat_none ss p l)
        | inr k ↦ elim (cases_lt (length ss) p) [ inl l ↦ no_free (seat_past ss p l) | inr l ↦ (k, l) ]
      ]
    where
      no_free : seat_of ss p ≡ Free → (1 ≤ p) × (p ≤ length ss)
      no_free e = let z : ◌≡◌ {A = Bool} true false = sym (ap is_free_seat e) ∙ h in let w : ◌≡◌ {A = ℕ} 0 1 = cc in absurd (omega arith)

  -- a write of a seat within bounds keeps all seats there
  pub seat_within : (k : ℕ) (ss : List (Seat E)) (j : ℕ) (s : Seat E) → ((i : ℕ) → in_seat k (get_or ss i Free) ≡ true) → in_seat k s ≡ true →
      (i : ℕ) → in_seat k (get_or (set ss j s) i Free) ≡ true
  seat_within k ss j s f h i = elim (cases_lt j (length ss)) [
    | inl l ↦ elim (cases_eq i j) [
      | inl e ↦ ap (in_seat k) (ap (λ x. get_or (set ss j s) x Free) e ∙ get_or-set_same ss j s Free l) ∙ h
      | inr n ↦ ap (in_seat k) (get_or-set_other ss j i s Free n) ∙ f i
    ]
    | inr l ↦ ap (λ x. in_seat k (get_or x i Free)) (set_out ss j s l) ∙ f i
  ]
