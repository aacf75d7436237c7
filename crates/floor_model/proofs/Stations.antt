-- How many stations wait uncounted, as one station changes.
use Rattle.std.proofs.Common.{◌≡◌, ℕ, zero, suc, ◌≤◌, Bool, true, false, cond, ◌≢◌, sym, refl, ap, ◌∙◌, subst, ⊎_elim, arith}
use Rattle.std.proofs.lemmas.Bool.{and_parts, cases_eq, cond-false}
use Rattle.boards.specs.Board.{Meaning, exists, is_free, is_uncounted, free_to, all_free, uncounted_to, uncounted}
use Rattle.boards.specs.Laws.{KeepsOthers}
use Rattle.boards.proofs.Stations.{free_is, exists_within}
pub use Rattle.boards.proofs.Stations.{all_free_each}

more_same : (b : Bool) (x y : ℕ) → x ≤ suc y → cond b (suc x) x ≤ suc (cond b (suc y) y)
more_same true x y l = omega arith
more_same false x y l = omega arith

more_here : (b : Bool) (x y : ℕ) → x ≡ y → cond b (suc x) x ≤ suc y
more_here true x y e = omega arith
more_here false x y e = omega arith

less_same : (b : Bool) (x y : ℕ) → suc x ≤ y → suc (cond b (suc x) x) ≤ cond b (suc y) y
less_same true x y l = omega arith
less_same false x y l = omega arith

module _ {Model Plain Op Answer : Type 0} (means : Meaning Model Plain Op Answer) where
  free_none : (m : Model) (n : ℕ) → free_to means m n ≡ true → uncounted_to means m n ≡ 0
  free_none m zero e = refl
  free_none m (suc n) e =
      let b = and_parts (is_free (means.station m (suc n))) (free_to means m n) e in
      cond-false (is_uncounted (means.station m (suc n))) _ _ (ap is_uncounted (free_is _ b.0)) ∙ free_none m n b.1

  -- where every station is free, none waits uncounted
  pub all_free_none : (m : Model) → all_free means m ≡ true → uncounted means m ≡ 0
  all_free_none m e = free_none m (means.stations m) e

  module _ (m k : Model) where
    abbrev waits_uncounted : Model → ℕ → Bool
    waits_uncounted x q = is_uncounted (means.station x q)

    number_same : (n : ℕ) → ((q : ℕ) → q ≤ n → waits_uncounted k q ≡ waits_uncounted m q) → uncounted_to means k n ≡ uncounted_to means m n
    number_same zero e = refl
    number_same (suc n) e =
        let i = number_same n (λ q l. e q (omega arith)) in
        ap (λ x. cond x (suc (uncounted_to means k n)) (uncounted_to means k n)) (e (suc n) (omega arith)) ∙
        ap (λ x. cond (waits_uncounted m (suc n)) (suc x) x) i

    number_more : (n p : ℕ) → ((q : ℕ) → q ≢ p → waits_uncounted k q ≡ waits_uncounted m q) → waits_uncounted m p ≡ false →
        uncounted_to means k n ≤ suc (uncounted_to means m n)
    number_more zero p e f = omega arith
    number_more (suc n) p e f =
        let a = uncounted_to means k n in
        let b = uncounted_to means m n in
        ⊎_elim
        (λ d. subst (λ x. cond (waits_uncounted k (suc n)) (suc a) a ≤ suc (cond x (suc b) b)) (sym (subst (λ x. waits_uncounted m x ≡ false) (sym d) f))
        (more_here (waits_uncounted k (suc n)) a b (number_same n (λ q l. e q (λ c. omega arith)))))
        (λ d. subst (λ x. cond x (suc a) a ≤ suc (cond (waits_uncounted m (suc n)) (suc b) b)) (sym (e (suc n) d))
        (more_same (waits_uncounted m (suc n)) a b (number_more n p e f)))
        (cases_eq (suc n) p)

    number_less : (n p : ℕ) → 1 ≤ p → p ≤ n → ((q : ℕ) → q ≢ p → waits_uncounted k q ≡ waits_uncounted m q) →
        waits_uncounted m p ≡ true → waits_uncounted k p ≡ false → suc (uncounted_to means k n) ≤ uncounted_to means m n
    number_less zero p lo hi e t f = omega arith
    number_less (suc n) p lo hi e t f =
        let a = uncounted_to means k n in
        let b = uncounted_to means m n in
        ⊎_elim
        (λ d. let i = number_same n (λ q l. e q (λ c. omega arith)) in
        subst (λ x. suc (cond x (suc a) a) ≤ cond (waits_uncounted m (suc n)) (suc b) b) (sym (subst (λ x. waits_uncounted k x ≡ false) (sym d) f))
        (subst (λ x. suc a ≤ cond x (suc b) b) (sym (subst (λ x. waits_uncounted m x ≡ true) (sym d) t)) (omega arith)))
        (λ d. subst (λ x. suc (cond x (suc a) a) ≤ cond (waits_uncounted m (suc n)) (suc b) b) (sym (e (suc n) d))
        (less_same (waits_uncounted m (suc n)) a b (number_less n p lo (omega arith) e t f)))
        (cases_eq (suc n) p)

    -- the same of all the stations, where only station p changes
    module _ (p : ℕ) (keeps : KeepsOthers means m k p) where
      others : (q : ℕ) → q ≢ p → waits_uncounted k q ≡ waits_uncounted m q
      others q n = ap is_uncounted (keeps.station q n)

      pub uncounted_more : waits_uncounted m p ≡ false → uncounted means k ≤ suc (uncounted means m)
      uncounted_more f =
          subst (λ x. uncounted_to means k x ≤ suc (uncounted_to means m (means.stations m))) (sym keeps.stations) (number_more (means.stations m) p others f)

      pub uncounted_less : exists means m p ≡ true → waits_uncounted m p ≡ true → waits_uncounted k p ≡ false → suc (uncounted means k) ≤ uncounted means m
      uncounted_less x t f =
          let b = exists_within means m p x in
          subst (λ x. suc (uncounted_to means k x) ≤ uncounted_to means m (means.stations m)) (sym keeps.stations)
          (number_less (means.stations m) p b.0 b.1 others t f)

      pub uncounted_same : waits_uncounted k p ≡ waits_uncounted m p → uncounted means k ≡ uncounted means m
      uncounted_same e =
          ap (uncounted_to means k) keeps.stations ∙
          number_same (means.stations m) (λ q _. ⊎_elim (λ d. subst (λ x. waits_uncounted k x ≡ waits_uncounted m x) (sym d) e) (others q) (cases_eq q p))

  number_some : (m : Model) (n p : ℕ) → 1 ≤ p → p ≤ n → is_uncounted (means.station m p) ≡ true → 1 ≤ uncounted_to means m n
  number_some m zero p lo hi t = omega arith
  number_some m (suc n) p lo hi t =
      ⊎_elim
      (λ d. subst (λ x. 1 ≤ cond x (suc (uncounted_to means m n)) (uncounted_to means m n)) (sym (subst (λ x. is_uncounted (means.station m x) ≡ true) (sym d) t)) (omega arith))
      (λ d. let i = number_some m n p lo (omega arith) t in some (is_uncounted (means.station m (suc n))) i)
      (cases_eq (suc n) p)
    where
      some : (b : Bool) → 1 ≤ uncounted_to means m n → 1 ≤ cond b (suc (uncounted_to means m n)) (uncounted_to means m n)
      some true i = omega arith
      some false i = i

  pub uncounted_some : (m : Model) (p : ℕ) → exists means m p ≡ true → is_uncounted (means.station m p) ≡ true → 1 ≤ uncounted means m
  uncounted_some m p x t = let b = exists_within means m p x in number_some m (means.stations m) p b.0 b.1 t

  pub turned : (m k : Model) (p : ℕ) → KeepsOthers means m k p → KeepsOthers means k m p
  turned m k p x = record { stations = sym x.stations; bound = sym x.bound; station = λ q n. sym (x.station q n) }
