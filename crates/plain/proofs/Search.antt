-- Where a search from the front of a list stops: at the place of a key, and at the place where it belongs.
use Rattle.std.proofs.Common.{◌≡◌, ℕ, suc, ◌+◌, ◌<◌, ◌≤◌, Bool, true, false, not, cond, List, [], ◌∷◌, length, Some, None, refl, sym, ap, ◌∙◌, subst, arith}
use Rattle.std.specs.Prelude.{Option, nat_lt, is_some}
use Rattle.std.specs.Option.{unwrap_or}
use Rattle.std.proofs.lemmas.List.Sums.{prefix_len-le-length}
use Rattle.std.specs.List.{insert as inserted, remove as removed, position, position_or_len}
use Rattle.std.proofs.lemmas.Bool.{ltb-true}
use Rattle.std.proofs.lemmas.Bool.Decides.{nat_tests}
use Rattle.plain_model.specs.Nest.{same, has, insert, remove}
use Rattle.plain.specs.Search.{Stands}

one_more : (n : ℕ) → 1 + n ≡ suc n
one_more n = omega arith

or_end : (p n : ℕ) → p ≤ n → p ≡ unwrap_or (cond (nat_lt p n) (Some p) None) n
or_end p n most = split (nat_lt p n) refl
  where
    split : (b : Bool) → nat_lt p n ≡ b → p ≡ unwrap_or (cond b (Some p) None) n
    split true e = refl
    split false e = grind (arith, nat_tests)

module _ {K : Type 0} (before : K → K → Bool) (k : K) where
  -- where a search for the key stops
  abbrev stop : List K → ℕ
  stop xs = position_or_len (same before k) xs

  abbrev Found : List K → Type 0
  Found xs = (has before k xs ≡ true) × (remove before k xs ≡ removed xs (stop xs))

  found_on : (x : K) (xs : List K) → (stop xs < length xs → Found xs) → (b : Bool) → same before k x ≡ b → stop (x ∷ xs) < suc (length xs) → Found (x ∷ xs)
  found_on x xs ih true e h = rw e (refl, refl)
  found_on x xs ih false e h =
      let shorter : 1 + stop xs < suc (length xs) = subst (λ b. cond (not b) (1 + stop xs) 0 < suc (length xs)) e h in
      let r = ih (omega arith) in
      rw (e, one_more (stop xs)) (r.0, ap (λ ys. x ∷ ys) r.1)

  found : (xs : List K) → stop xs < length xs → Found xs
  found [] h = absurd (omega arith)
  found (x ∷ xs) h = found_on x xs (found xs) (same before k x) refl h

  missed_on : (x : K) (xs : List K) → (length xs ≤ stop xs → has before k xs ≡ false) → (b : Bool) → same before k x ≡ b → suc (length xs) ≤ stop (x ∷ xs) → has before k (x ∷ xs) ≡ false
  missed_on x xs ih true e h = absurd (let none : suc (length xs) ≤ 0 = subst (λ b. suc (length xs) ≤ cond (not b) (1 + stop xs) 0) e h in omega arith)
  missed_on x xs ih false e h =
      let shorter : suc (length xs) ≤ 1 + stop xs = subst (λ b. suc (length xs) ≤ cond (not b) (1 + stop xs) 0) e h in
      rw e (ih (omega arith))

  missed : (xs : List K) → length xs ≤ stop xs → has before k xs ≡ false
  missed [] h = refl
  missed (x ∷ xs) h = missed_on x xs (missed xs) (same before k x) refl h

  -- the place of the key: the first key that is the same, if it is in the list
  pub stands : (xs : List K) → Stands before k xs (position (same before k) xs)
  stands xs = split (nat_lt (stop xs) (length xs)) refl
    where
      split : (b : Bool) → nat_lt (stop xs) (length xs) ≡ b → Stands before k xs (cond b (Some (stop xs)) None)
      split true e = let within = ltb-true (stop xs) (length xs) e in let f = found xs within in (within, f.0, f.1)
      split false e = missed xs (grind (arith, nat_tests))

  pub is_there : (xs : List K) → is_some (position (same before k) xs) ≡ has before k xs
  is_there xs = told (position (same before k) xs) (stands xs)
    where
      told : (r : Option ℕ) → Stands before k xs r → is_some r ≡ has before k xs
      told None h = sym h
      told (Some i) h = sym h.1

  belongs_on : (x : K) (xs : List K) → insert before k xs ≡ inserted xs (position_or_len (λ y. not (before y k)) xs) k → (b : Bool) → before x k ≡ b →
      insert before k (x ∷ xs) ≡ inserted (x ∷ xs) (position_or_len (λ y. not (before y k)) (x ∷ xs)) k
  belongs_on x xs ih true e = rw (e, one_more (position_or_len (λ y. not (before y k)) xs)) (ap (λ ys. x ∷ ys) ih)
  belongs_on x xs ih false e = rw e refl

  belongs_at : (xs : List K) → insert before k xs ≡ inserted xs (position_or_len (λ x. not (before x k)) xs) k
  belongs_at [] = refl
  belongs_at (x ∷ xs) = belongs_on x xs (belongs_at xs) (before x k) refl

  -- the key belongs at the first key that is not before it, or else at the end
  pub belongs : (xs : List K) → insert before k xs ≡ inserted xs (unwrap_or (position (λ x. not (before x k)) xs) (length xs)) k
  belongs xs = belongs_at xs ∙ ap (λ i. inserted xs i k) (or_end (position_or_len (λ x. not (before x k)) xs) (length xs) (prefix_len-le-length (λ x. not (not (before x k))) xs))
