-- Two heaps whose cells agree on the linked nodes of a kind that the chain does not leave.
use Rattle.std.proofs.Common.{◌≡◌, ℕ, zero, suc, ◌≤◌, Bool, true, cond, not, ◌≢◌, [], sym, refl, ap, ◌∙◌, subst, ⊎_elim, arith}
use Rattle.std.proofs.lemmas.Bool.{cases_eq, ne_eqb}
use Rattle.nest_model.specs.declared.cell.Cell.{Cell}
use Rattle.nest_model.specs.Ends.{Extended, Mid, lt, Lt}
use Rattle.nest_model.specs.Cells.{node}
use Rattle.nest_model.specs.Chain.{after, fold, push, listing, steps_to_back, clean, Reach}
use Rattle.nest_model.specs.Sound.{Chained}
use Rattle.nest_model.proofs.Orders.{lt_trans, lt_ne}
use Rattle.nest_model.proofs.Heap.{Heap, In, next}

module _ {K : Type 0} {before : K → K → Bool} (H : Heap before) (c' : ℕ → Cell) where
  module _ (P : ℕ → Type 0) (up : (n : ℕ) → In H n → n ≢ 1 → P n → P (next H n)) (agree : (n : ℕ) → In H n → P n → c' n ≡ H.cell n) where
    pub reach_agree : (u n : ℕ) → In H n → P n → Reach H.cell u n → Reach c' u n
    reach_agree u n l p Reach.at = Reach.at
    reach_agree u n l p (Reach.via ne r) =
        let ih = reach_agree u (next H n) (H.ok.onward n l ne) (up n l ne p) r in
        Reach.via ne (subst (λ (d : Cell). Reach c' u (node d.next)) (sym (agree n l p)) ih)

    pub fold_agree : {A : Type 0} (s s' : ℕ → A → A) (z : A) → ((n : ℕ) → In H n → n ≢ 1 → P n → (r : A) → s' n r ≡ s n r) →
        (f n : ℕ) → In H n → P n → fold c' s' z f n ≡ fold H.cell s z f n
    fold_agree s s' z e zero n l p = refl
    fold_agree s s' z e (suc f) n l p =
        ⊎_elim (λ q. rw q refl)
        (λ ne.
        let ih = fold_agree s s' z e f (next H n) (H.ok.onward n l ne) (up n l ne p) in
        rw (ne_eqb n 1 ne, agree n l p) (e n l ne p _ ∙ ap (s n) ih))
        (cases_eq n 1)

    module _ (key' : ℕ → Extended K) (alike : (n : ℕ) → In H n → key' n ≡ H.key n) (f : ℕ) where
      pub list_agree : (n : ℕ) → In H n → P n → listing c' key' f n ≡ listing H.cell H.key f n
      list_agree n l p =
          fold_agree (λ i r. cond (H.cell i).mark r (push (H.key i) r)) (λ i r. cond (c' i).mark r (push (key' i) r)) []
          (λ i li ne pi r. rw (agree i li pi, alike i li)) f n l p

      pub steps_agree : (n : ℕ) → In H n → P n → steps_to_back c' f n ≡ steps_to_back H.cell f n
      steps_agree n l p = fold_agree (λ i r. suc r) (λ i r. suc r) 0 (λ i li ne pi r. refl) f n l p

      pub clean_agree : (k : K) (n : ℕ) → In H n → P n → clean before c' key' k f n ≡ clean before H.cell H.key k f n
      clean_agree k n l p =
          fold_agree (λ i r. cond (lt before (Mid k) (H.key (after H.cell i))) (not (H.cell i).mark) r) (λ i r. cond (lt before (Mid k) (key' (after c' i))) (not (c' i).mark) r) true
          (λ i li ne pi r. rw (agree i li pi, alike _ (H.ok.onward i li ne))) f n l p

  -- the nodes after x, if only x's cell differs
  module _ (x : ℕ) (off : (n : ℕ) → n ≢ x → c' n ≡ H.cell n) where
    abbrev pub After : ℕ → Type 0
    After n = Lt before (H.key x) (H.key n)

    pub after_up : (n : ℕ) → In H n → n ≢ 1 → After n → After (next H n)
    after_up n l ne p = lt_trans H.total _ _ _ p (H.ok.rises n l ne)

    pub after_ne : (n : ℕ) → After n → n ≢ x
    after_ne n p e = lt_ne H.total _ _ p (ap H.key (sym e))

    pub after_agree : (n : ℕ) → In H n → After n → c' n ≡ H.cell n
    after_agree n l p = off n (after_ne n p)

  -- the whole chain, if no linked node's cell or key differs
  module _ (agree : (n : ℕ) → In H n → c' n ≡ H.cell n) (key' : ℕ → Extended K) (alike : (n : ℕ) → In H n → key' n ≡ H.key n) (size' : ℕ) (larger : H.size ≤ size') where
    pub all_chained : Chained before c' key' size' H.linked
    all_chained = record {
      low_key = alike 0 H.ok.front_in ∙ H.ok.low_key;
      high_key = alike 1 H.ok.back_in ∙ H.ok.high_key;
      front_in = H.ok.front_in;
      back_in = H.ok.back_in;
      front_plain = ap (λ (d : Cell). d.mark) (agree 0 H.ok.front_in) ∙ H.ok.front_plain;
      back_plain = ap (λ (d : Cell). d.mark) (agree 1 H.ok.back_in) ∙ H.ok.back_plain;
      fits = λ n l. let f = H.ok.fits n l in omega arith;
      named = λ n l ne. rw (agree n l) (H.ok.named n l ne);
      onward = λ n l ne. rw (agree n l) (H.ok.onward n l ne);
      rises = λ n l ne. rw (agree n l) (rw (alike n l) (rw (alike (next H n) (H.ok.onward n l ne)) (H.ok.rises n l ne)));
      chained = λ n l m. reach_agree (λ _. Unit {0}) (λ _ _ _ _. tt) (λ i li _. agree i li) n 0 H.ok.front_in tt (H.ok.chained n l (rw (agree n l) at m));
    }

    -- how far a waiting station is reads linked nodes alone
    pub clean_all : (k : K) (f : ℕ) → clean before c' key' k f 0 ≡ clean before H.cell H.key k f 0
    clean_all k f = clean_agree (λ _. Unit {0}) (λ _ _ _ _. tt) (λ i li _. agree i li) key' alike f k 0 H.ok.front_in tt

    pub steps_all : (f n : ℕ) → In H n → steps_to_back c' f n ≡ steps_to_back H.cell f n
    steps_all f n l = steps_agree (λ _. Unit {0}) (λ _ _ _ _. tt) (λ i li _. agree i li) key' alike f n l tt

    pub list_all : (f : ℕ) → listing c' key' f 0 ≡ listing H.cell H.key f 0
    list_all f = list_agree (λ _. Unit {0}) (λ _ _ _ _. tt) (λ i li _. agree i li) key' alike f 0 H.ok.front_in tt
