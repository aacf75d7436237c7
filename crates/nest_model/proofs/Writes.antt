-- What a write to one linked node makes of a heap: N4 takes nodes out of the chain, N6 marks one, N5 links one.
use Rattle.std.proofs.Common.{◌≡◌, ℕ, ◌+◌, ◌<◌, Bool, true, false, ◌||◌, eqb, ◌≢◌, List, ◌∷◌, Some, sym, refl, ap, ◌∙◌, subst, ⊎_elim, true≢false, arith}
use Rattle.std.proofs.lemmas.Bool.{cases_eq, eq-eqb, eqb-true, cases_Bool, or_right, or_left, or_cases}
use Rattle.nest_model.specs.declared.cell.Cell.{Cell}
use Rattle.nest_model.specs.Ends.{Extended, Low, Mid, Lt, Le}
use Rattle.nest_model.specs.Cells.{node, link, gone}
use Rattle.nest_model.specs.Chain.{after, push, Reach, Leads}
use Rattle.nest_model.specs.Live.{Names}
use Rattle.nest_model.specs.Sound.{Chained}
use Rattle.plain_model.specs.Nest.{insert, remove}
use Rattle.nest_model.proofs.Orders.{lt_irr, lt_trans, lt_no, lt_le, lt_ne, key_self}
use Rattle.nest_model.proofs.Heap
use Rattle.nest_model.proofs.Heap.{Heap, In, next, mark, list, list_marked, list_plain, list_leads, before_end}
use Rattle.nest_model.proofs.Sequential
use Rattle.nest_model.proofs.Agree.{reach_agree, list_agree, After, after_up, after_agree}

-- the heap after a step, with its linked nodes
abbrev pub moved : {K : Type 0} {before : K → K → Bool} (H : Heap before) (c' : ℕ → Cell) (L' : ℕ → Bool) → Chained before c' H.key H.size L' → Heap before
moved H c' L' ok' = record { total = H.total; cell = c'; key = H.key; size = H.size; room = H.room; linked = L'; ok = ok'; enough = H.enough }

-- the node x is linked and unmarked, and only its cell changes
module _ {K : Type 0} {before : K → K → Bool} (H : Heap before) (c' : ℕ → Cell) (x : ℕ) (l : In H x) (ne₁ : x ≢ 1) (plain : mark H x ≡ false)
    (off : (n : ℕ) → n ≢ x → c' n ≡ H.cell n) where
  pub plain_was : (n : ℕ) → (c' n).mark ≡ false → mark H n ≡ false
  plain_was n t = ⊎_elim (λ e. rw e plain) (λ ne. rw (off n ne) at t) (cases_eq n x)

  pub past_x : (u n : ℕ) → In H n → After H c' x off n → Reach H.cell u n → Reach c' u n
  past_x = reach_agree H c' (After H c' x off) (after_up H c' x off) (after_agree H c' x off)

  module _ (bridge : (u : ℕ) → mark H u ≡ false → Reach H.cell u (next H x) → Reach c' u (after c' x)) where
    pub reach_moved : (u n : ℕ) → mark H u ≡ false → In H n → Reach H.cell u n → Reach c' u n
    reach_moved u n m li Reach.at = Reach.at
    reach_moved u n m li (Reach.via ne r) =
        let ih = reach_moved u (next H n) m (H.ok.onward n li ne) r in
        ⊎_elim
        (λ e. subst (λ (i : ℕ). Reach c' u i) (sym e) (Reach.via ne₁ (bridge u m (subst (λ (i : ℕ). Reach H.cell u (next H i)) e r))))
        (λ d. Reach.via ne (subst (λ (w : Cell). Reach c' u (node w.next)) (sym (off n d)) ih))
        (cases_eq n x)

  -- the keys from a node on that leads to x, if a change t passes the keys before b
  module _ (L' : ℕ → Bool) (ok' : Chained before c' H.key H.size L') (more : (n : ℕ) → In H n → L' n ≡ true)
      (t : List K → List K) (b : Extended K) (le : Le before (H.key x) b)
      (passes : (y : Extended K) (r : List K) → Lt before y b → t (push y r) ≡ push y (t r))
      (here : list (moved H c' L' ok') x ≡ t (list H x)) where
    pub list_moved : (n : ℕ) → Reach H.cell x n → In H n → list (moved H c' L' ok') n ≡ t (list H n)
    list_moved n Reach.at li = here
    list_moved n (Reach.via ne r) li =
        let ih = list_moved (next H n) r (H.ok.onward n li ne) in
        let before = before_end H x n li ne r in
        let d : n ≢ x = λ e. lt_ne H.total _ _ before (ap H.key e) in
        let same-list : list (moved H c' L' ok') (after c' n) ≡ list (moved H c' L' ok') (next H n) = ap (λ (w : Cell). list (moved H c' L' ok') (node w.next)) (off n d) in
        ⊎_elim
        (λ m. list_marked (moved H c' L' ok') n (more n li) (rw (off n d) m) ∙ same-list ∙ ih ∙ ap t (sym (list_marked H n li m)))
        (λ m.
        list_plain (moved H c' L' ok') n (more n li) ne (rw (off n d) m) ∙ ap (push (H.key n)) (same-list ∙ ih) ∙
        sym (passes (H.key n) _ (lt_le H.total _ _ _ before le)) ∙ ap t (sym (list_plain H n li ne m)))
        (cases_Bool (mark H n))

    pub list_front : list (moved H c' L' ok') 0 ≡ t (list H 0)
    list_front = list_moved 0 (H.ok.chained x l plain) H.ok.front_in

-- N4: keep's next becomes `here`, to which it leads through marked nodes
module _ {K : Type 0} {before : K → K → Bool} (H : Heap before) (c' : ℕ → Cell) (keep kept here : ℕ) (l : In H keep) (ne₁ : keep ≢ 1)
    (was : H.cell keep ≡ link (Some kept)) (leads : Leads H.cell here kept)
    (now : c' keep ≡ link (Some here)) (off : (n : ℕ) → n ≢ keep → c' n ≡ H.cell n) where
  unlink_plain : mark H keep ≡ false
  unlink_plain = ap (λ (d : Cell). d.mark) was

  kept_is : next H keep ≡ kept
  kept_is = ap (λ (d : Cell). node d.next) was

  kept_in : In H kept
  kept_in = subst (In H) kept_is (H.ok.onward keep l ne₁)

  here_in : In H here
  here_in = Heap.leads_in H here kept leads kept_in

  here_after : Lt before (H.key keep) (H.key here)
  here_after = Heap.leads_after H (H.key keep) here kept leads kept_in (subst (λ i. Lt before (H.key keep) (H.key i)) kept_is (H.ok.rises keep l ne₁))

  unlink_bridge : (u : ℕ) → mark H u ≡ false → Reach H.cell u (next H keep) → Reach c' u (after c' keep)
  unlink_bridge u m r =
      let skipped = Heap.reach_skip H u here kept m leads (subst (Reach H.cell u) kept_is r) in
      rw now (past_x H c' keep l ne₁ unlink_plain off u here here_in here_after skipped)

  pub unlink_ok : Chained before c' H.key H.size H.linked
  unlink_ok = record {
    low_key = H.ok.low_key;
    high_key = H.ok.high_key;
    front_in = H.ok.front_in;
    back_in = H.ok.back_in;
    front_plain = ⊎_elim (λ e. rw e (rw now)) (λ d. rw (off 0 d) H.ok.front_plain) (cases_eq 0 keep);
    back_plain = rw (off 1 (λ e. ne₁ (sym e))) H.ok.back_plain;
    fits = H.ok.fits;
    named = λ n li ne. ⊎_elim (λ e. rw e (rw now refl)) (λ d. rw (off n d) (H.ok.named n li ne)) (cases_eq n keep);
    onward = λ n li ne. ⊎_elim (λ e. rw e (rw now here_in)) (λ d. rw (off n d) (H.ok.onward n li ne)) (cases_eq n keep);
    rises = λ n li ne. ⊎_elim (λ e. rw e (rw now here_after)) (λ d. rw (off n d) (H.ok.rises n li ne)) (cases_eq n keep);
    chained = λ n li m.
        let p = plain_was H c' keep l ne₁ unlink_plain off n m in
        reach_moved H c' keep l ne₁ unlink_plain off unlink_bridge n 0 p H.ok.front_in (H.ok.chained n li p);
  }

  pub unlink_list : list (moved H c' H.linked unlink_ok) 0 ≡ list H 0
  unlink_list =
      list_front H c' keep l ne₁ unlink_plain off H.linked unlink_ok (λ n li. li) (λ r. r) (H.key keep) (lt_irr H.total (H.key keep)) (λ y r a. refl)
      (list_plain (moved H c' H.linked unlink_ok) keep l ne₁ (rw now) ∙
      ap (push (H.key keep))
      (ap (λ (d : Cell). list (moved H c' H.linked unlink_ok) (node d.next)) now ∙
      list_agree H c' (After H c' keep off) (after_up H c' keep off) (after_agree H c' keep off) H.key (λ n li. refl) (H.room + 2) here here_in here_after ∙
      sym (list_leads H here kept leads kept_in) ∙ ap (list H) (sym kept_is)) ∙
      sym (list_plain H keep l ne₁ unlink_plain))

-- N6: a node is marked
module _ {K : Type 0} {before : K → K → Bool} (H : Heap before) (c' : ℕ → Cell) (here then : ℕ) (k : K) (l : In H here) (ne₁ : here ≢ 1)
    (is : H.key here ≡ Mid k) (was : H.cell here ≡ link (Some then))
    (now : c' here ≡ gone (Some then)) (off : (n : ℕ) → n ≢ here → c' n ≡ H.cell n) where
  strike_plain : mark H here ≡ false
  strike_plain = ap (λ (d : Cell). d.mark) was

  then_is : next H here ≡ then
  then_is = ap (λ (d : Cell). node d.next) was

  next_kept : after c' here ≡ next H here
  next_kept = ap (λ (d : Cell). node d.next) now ∙ sym then_is

  then_in : In H (next H here)
  then_in = H.ok.onward here l ne₁

  not_front : 0 ≢ here
  not_front e = let z : ◌≡◌ {A = Extended K} Low (Mid k) = sym H.ok.low_key ∙ rw e is in let w : ◌≡◌ {A = ℕ} 0 1 = cc in omega arith

  strike_bridge : (u : ℕ) → mark H u ≡ false → Reach H.cell u (next H here) → Reach c' u (after c' here)
  strike_bridge u m r = rw next_kept (past_x H c' here l ne₁ strike_plain off u (next H here) then_in (H.ok.rises here l ne₁) r)

  pub strike_ok : Chained before c' H.key H.size H.linked
  strike_ok = record {
    low_key = H.ok.low_key;
    high_key = H.ok.high_key;
    front_in = H.ok.front_in;
    back_in = H.ok.back_in;
    front_plain = rw (off 0 not_front) H.ok.front_plain;
    back_plain = rw (off 1 (λ e. ne₁ (sym e))) H.ok.back_plain;
    fits = H.ok.fits;
    named = λ n li ne. ⊎_elim (λ e. rw e (rw now refl)) (λ d. rw (off n d) (H.ok.named n li ne)) (cases_eq n here);
    onward = λ n li ne. ⊎_elim (λ e. rw e (rw next_kept then_in)) (λ d. rw (off n d) (H.ok.onward n li ne)) (cases_eq n here);
    rises = λ n li ne. ⊎_elim (λ e. rw e (rw next_kept (H.ok.rises here l ne₁))) (λ d. rw (off n d) (H.ok.rises n li ne)) (cases_eq n here);
    chained = λ n li m.
        let p = plain_was H c' here l ne₁ strike_plain off n m in
        reach_moved H c' here l ne₁ strike_plain off strike_bridge n 0 p H.ok.front_in (H.ok.chained n li p);
  }

  pub strike_list : list (moved H c' H.linked strike_ok) 0 ≡ remove before k (list H 0)
  strike_list =
      list_front H c' here l ne₁ strike_plain off H.linked strike_ok (λ n li. li) (remove before k) (Mid k) (rw is (lt_irr H.total (Mid k))) (Sequential.remove_past H.total k)
      (list_marked (moved H c' H.linked strike_ok) here l (ap (λ (d : Cell). d.mark) now) ∙
      ap (list (moved H c' H.linked strike_ok)) next_kept ∙
      list_agree H c' (After H c' here off) (after_up H c' here off) (after_agree H c' here off) H.key (λ n li. refl) (H.room + 2) (next H here) then_in (H.ok.rises here l ne₁) ∙
      sym (ap (remove before k) (list_plain H here l ne₁ strike_plain) ∙ rw (is, key_self H.total k)))

-- N5: the node `own`, not linked so far, comes between `here` and `then`
module _ {K : Type 0} {before : K → K → Bool} (H : Heap before) (c' : ℕ → Cell) (here then own : ℕ) (k : K) (l : In H here) (ne₁ : here ≢ 1)
    (below : Lt before (H.key here) (Mid k)) (above : Lt before (Mid k) (H.key then)) (was : H.cell here ≡ link (Some then))
    (out : H.linked own ≡ false) (own-fits : own < H.size) (own_key : H.key own ≡ Mid k) (own-cell : H.cell own ≡ link (Some then))
    (now : c' here ≡ link (Some own)) (off : (n : ℕ) → n ≢ here → c' n ≡ H.cell n) where
  insert_plain : mark H here ≡ false
  insert_plain = ap (λ (d : Cell). d.mark) was

  next_is : next H here ≡ then
  next_is = ap (λ (d : Cell). node d.next) was

  after_in : In H then
  after_in = subst (In H) next_is (H.ok.onward here l ne₁)

  after_rises : Lt before (H.key here) (H.key then)
  after_rises = lt_trans H.total _ _ _ below above

  own_ne : (n : ℕ) → In H n → n ≢ own
  own_ne n li e = true≢false (sym li ∙ ap H.linked e ∙ out)

  own_not_here : own ≢ here
  own_not_here e = own_ne here l (sym e)

  own_now : c' own ≡ link (Some then)
  own_now = off own own_not_here ∙ own-cell

  own_not_back : own ≢ 1
  own_not_back e = own_ne 1 H.ok.back_in (sym e)

  insert_bridge : (u : ℕ) → mark H u ≡ false → Reach H.cell u (next H here) → Reach c' u (after c' here)
  insert_bridge u m r =
      let on = past_x H c' here l ne₁ insert_plain off u then after_in after_rises (subst (Reach H.cell u) next_is r) in
      rw now (Reach.via own_not_back (rw own_now on))

  abbrev pub joined : ℕ → Bool
  joined n = eqb n own || H.linked n

  pub joins : (n : ℕ) → In H n → joined n ≡ true
  joins n li = or_right (eqb n own) (H.linked n) li

  own_joined : joined own ≡ true
  own_joined = or_left (eqb own own) (H.linked own) (eq-eqb own own refl)

  -- what still of own and of each linked node
  by_joined : (P : ℕ → Type 0) → P own → ((n : ℕ) → In H n → P n) → (n : ℕ) → joined n ≡ true → P n
  by_joined P mine others n j =
      ⊎_elim (λ e. subst P (sym (eqb-true n own e)) mine) (others n) (or_cases (eqb n own) (H.linked n) j)

  reach_here : Reach c' here 0
  reach_here = reach_moved H c' here l ne₁ insert_plain off insert_bridge here 0 insert_plain H.ok.front_in (H.ok.chained here l insert_plain)

  reach_then : (u n : ℕ) → Reach c' u n → u ≢ 1 → Reach c' (after c' u) n
  reach_then u n Reach.at e = Reach.via e Reach.at
  reach_then u n (Reach.via ne r) e = Reach.via ne (reach_then u (after c' n) r e)

  pub insert_ok : Chained before c' H.key H.size joined
  insert_ok = record {
    low_key = H.ok.low_key;
    high_key = H.ok.high_key;
    front_in = joins 0 H.ok.front_in;
    back_in = joins 1 H.ok.back_in;
    front_plain = ⊎_elim (λ e. rw e (rw now)) (λ d. rw (off 0 d) H.ok.front_plain) (cases_eq 0 here);
    back_plain = rw (off 1 (λ e. ne₁ (sym e))) H.ok.back_plain;
    fits = by_joined (λ n. n < H.size) own-fits H.ok.fits;
    named = by_joined (λ n. n ≢ 1 → Names (c' n).next) (λ ne. rw own_now refl)
        (λ n li ne. ⊎_elim (λ e. rw e (rw now refl)) (λ d. rw (off n d) (H.ok.named n li ne)) (cases_eq n here));
    onward = by_joined (λ n. n ≢ 1 → joined (after c' n) ≡ true) (λ ne. rw own_now (joins then after_in))
        (λ n li ne. ⊎_elim (λ e. rw e (rw now own_joined)) (λ d. rw (off n d) (joins _ (H.ok.onward n li ne))) (cases_eq n here));
    rises = by_joined (λ n. n ≢ 1 → Lt before (H.key n) (H.key (after c' n))) (λ ne. rw own_now (rw own_key above))
        (λ n li ne. ⊎_elim (λ e. rw e (rw now (rw own_key below))) (λ d. rw (off n d) (H.ok.rises n li ne)) (cases_eq n here));
    chained = by_joined (λ n. (c' n).mark ≡ false → Reach c' n 0) (λ m. subst (λ (d : Cell). Reach c' (node d.next) 0) now (reach_then here 0 reach_here ne₁))
        (λ n li m.
        let p = plain_was H c' here l ne₁ insert_plain off n m in
        reach_moved H c' here l ne₁ insert_plain off insert_bridge n 0 p H.ok.front_in (H.ok.chained n li p));
  }

  pub insert_list : list (moved H c' joined insert_ok) 0 ≡ insert before k (list H 0)
  insert_list =
      list_front H c' here l ne₁ insert_plain off joined insert_ok joins (insert before k) (Mid k) (lt_no H.total _ _ below) (Sequential.insert_past H.total k)
      (list_plain (moved H c' joined insert_ok) here (joins here l) ne₁ (rw now) ∙
      ap (push (H.key here))
      (ap (λ (d : Cell). list (moved H c' joined insert_ok) (node d.next)) now ∙
      list_plain (moved H c' joined insert_ok) own own_joined own_not_back (rw own_now) ∙
      ap (λ (y : Extended K). push y (list (moved H c' joined insert_ok) (after c' own))) own_key ∙
      ap (λ (d : Cell). k ∷ list (moved H c' joined insert_ok) (node d.next)) own_now ∙
      ap (λ (r : List K). k ∷ r)
      (list_agree H c' (After H c' here off) (after_up H c' here off) (after_agree H c' here off) H.key (λ n li. refl) (H.room + 2) then after_in after_rises) ∙
      sym (Sequential.insert_first H k then after_in above) ∙ ap (λ (i : ℕ). insert before k (list H i)) (sym next_is)) ∙
      sym (Sequential.insert_past H.total k (H.key here) _ below) ∙ ap (insert before k) (sym (list_plain H here l ne₁ insert_plain)))
