-- Giving a node a rank, and how many nodes have one.
use Rattle.std.proofs.Common.{◌≡◌, ℕ, zero, suc, ◌+◌, ◌<◌, ◌≤◌, cond, eqb, ◌≢◌, refl, ap, ap₂, inl, inr, arith}
use Rattle.std.proofs.lemmas.Bool.{eq-eqb, ne_eqb, cases_eq}
use Rattle.line_model.specs.Sound.{one_if, ranked}

abbrev pub put : (ℕ → ℕ) → ℕ → ℕ → ℕ → ℕ
put rank i v a = cond (eqb a i) v (rank a)

pub put_same : (rank : ℕ → ℕ) (i v : ℕ) → put rank i v i ≡ v
put_same rank i v = rw (eq-eqb i i refl)

pub put_other : (rank : ℕ → ℕ) (i v a : ℕ) → a ≢ i → put rank i v a ≡ rank a
put_other rank i v a n = rw (ne_eqb a i n)

one_most : (r : ℕ) → one_if r ≤ 1
one_most zero = omega arith
one_most (suc r) = omega arith

pub ranked_most : (rank : ℕ → ℕ) (n : ℕ) → ranked rank n ≤ n
ranked_most rank zero = omega arith
ranked_most rank (suc n) = omega (arith, one_most (rank n), ranked_most rank n)

ranked_off : (rank : ℕ → ℕ) (i v n : ℕ) → n ≤ i → ranked (put rank i v) n ≡ ranked rank n
ranked_off rank i v zero h = refl
ranked_off rank i v (suc n) h = ap₂ (λ x y. x + y) (ap one_if (put_other rank i v n (omega arith))) (ranked_off rank i v n (omega arith))

pub ranked_on : (rank : ℕ → ℕ) (i v n : ℕ) → i < n → rank i ≡ 0 → ranked (put rank i (suc v)) n ≡ suc (ranked rank n)
ranked_on rank i v zero h z = absurd (omega arith)
ranked_on rank i v (suc n) h z = elim (cases_eq n i) [ inl e ↦ here e | inr d ↦ there d (ranked_on rank i v n (omega arith) z) ]
  where
    here : n ≡ i → ranked (put rank i (suc v)) (suc n) ≡ suc (ranked rank (suc n))
    here e =
        let a : one_if (put rank i (suc v) n) ≡ 1 = rw e (ap one_if (put_same rank i (suc v))) in
        let b : one_if (rank n) ≡ 0 = rw e (ap one_if z) in
        let c = ranked_off rank i (suc v) n (omega arith) in
        omega arith

    there : (n ≡ i → ⊥) → ranked (put rank i (suc v)) n ≡ suc (ranked rank n) → ranked (put rank i (suc v)) (suc n) ≡ suc (ranked rank (suc n))
    there d ih =
        let a : one_if (put rank i (suc v) n) ≡ one_if (rank n) = ap one_if (put_other rank i (suc v) n d) in
        omega arith

pub ranked_more : (rank : ℕ → ℕ) (n : ℕ) → rank n ≡ 0 → ranked rank (suc n) ≡ ranked rank n
ranked_more rank n z = let a = ap one_if z in omega arith
