-- Each move keeps what it should, and comes nearer to an answer.
use Rattle.std.proofs.Common.{◌≡◌, ℕ, suc, ◌+◌, ◌<◌, ◌≤◌, Bool, true, false, cond, not, eqb, ◌≢◌, List, Some, None, Option, sym, refl, ap, ◌∙◌, subst, true≢false, arith}
use mathlib.Core.Bool.{false≢true}
use Rattle.std.proofs.lemmas.Bool.{eq-eqb, ne_eqb, eqb-true, or_from, and_parts, and_from}
use Rattle.plain_model.specs.Nest.{apply, key_of}
use Rattle.plain_model.specs.declared.nest_op.NestOp.{NestOp}
use Rattle.plain_model.specs.declared.nest_op.NestOp.TheVariants.{Add, Drop, Find}
use Rattle.plain_model.specs.declared.nest_op.NestAnswer.{NestAnswer}
use Rattle.plain_model.specs.declared.nest_op.NestAnswer.TheVariants.{Added, Dropped}
use Rattle.nest_model.specs.declared.cell.Cell.{Cell}
use Rattle.nest_model.specs.Ends.{Extended, Mid, lt, Lt, Le, is_key}
use Rattle.nest_model.specs.Cells.{node, link, gone, same_node, same_mark}
use Rattle.nest_model.specs.Chain.{after, listing, Reach, Leads}
use Rattle.nest_model.specs.Live.{Live, Start, Walk, Skip, Unlink, Insert, Strike, Names, still, remaining}
use Rattle.nest_model.specs.Sound.{Chained, Held, Stands}
use Rattle.nest_model.proofs.Orders.{lt_irr, lt_trans, lt_no, low_first, high_last, key_is, key_not, not_key_before, key_self}
use Rattle.nest_model.proofs.Heap
use Rattle.nest_model.proofs.Heap.{Heap, In, next, mark, marked_ne, list, far_off, far_next, far_most, leads_in, leads_after, leads_more}
use Rattle.nest_model.proofs.Sequential
use Rattle.nest_model.proofs.Sequential.{tidy}
use Rattle.nest_model.proofs.Agree.{list_agree, all_chained}
use Rattle.nest_model.proofs.Move.{Move, goes, writes, says, does, decide, look, far, move}
use Rattle.nest_model.proofs.Writes.{moved, unlink_ok, unlink_list, strike_ok, strike_list, joined, joins, insert_ok, insert_list}

same_node_is : (m : Option ℕ) (n : ℕ) → same_node m (Some n) ≡ true → m ≡ Some n
same_node_is None n e = absurd (false≢true e)
same_node_is (Some m) n e = ap Some (eqb-true m n e)

same_mark_is : (b : Bool) → same_mark b false ≡ true → b ≡ false
same_mark_is true e = absurd (false≢true e)
same_mark_is false e = refl

pub still_is : (d : Cell) (n : ℕ) → still d n ≡ true → d ≡ link (Some n)
still_is d n h =
    let parts = and_parts (same_node d.next (Some n)) (same_mark d.mark false) h in
    let e = same_node_is d.next n parts.0 in let m = same_mark_is d.mark parts.1 in
    λ i. record { next = e i; mark = m i }

pub still_same : (d : Cell) → Names d.next → d.mark ≡ false → still d (node d.next) ≡ true
still_same d names m = rw m (rw names (and_from _ true (eq-eqb (node d.next) (node d.next) refl) refl))

-- the node of an add that waits is not linked
abbrev pub Owned : {K : Type 0} → (ℕ → Extended K) → ℕ → (ℕ → Bool) → NestOp K → ℕ → Type 0
Owned key size linked (Add k) own = (linked own ≡ false) × (own < size) × (key own ≡ Mid k)
Owned key size linked (Drop k) own = Unit {0}
Owned key size linked (Find k) own = Unit {0}

-- the distances' arithmetic
start_walk : (t : Bool) (x r : ℕ) → x ≤ r → x + cond t 1 (r + 4) < cond t (r + 2) (r + r + 5)
start_walk true x r h = omega arith
start_walk false x r h = omega arith

walk_walk : (v t : Bool) (x r : ℕ) → x + cond t 1 (r + 4) < suc x + cond v (cond t 1 (r + 4)) (r + r + 7)
walk_walk true true x r = omega arith
walk_walk true false x r = omega arith
walk_walk false true x r = omega arith
walk_walk false false x r = omega arith

skip_unlink : (v : Bool) (x r : ℕ) → cond v (r + 3) (r + r + 6) < x + cond v (r + 4) (r + r + 7)
skip_unlink true x r = omega arith
skip_unlink false x r = omega arith

again : (t : Bool) (r : ℕ) → cond t (r + 2) (r + r + 5) < r + r + 6
again true r = omega arith
again false r = omega arith

one_least : (t : Bool) (r : ℕ) → 1 ≤ cond t 1 (r + 4)
one_least true r = omega arith
one_least false r = omega arith

module _ {K : Type 0} {before : K → K → Bool} (H : Heap before) where
  -- a step that may write own, and else only keeps or links
  pub record Stepped (c' : ℕ → Cell) (key' : ℕ → Extended K) (size' own : ℕ) : Type 0 where
    pub linked : ℕ → Bool
    pub ok : Chained before c' key' size' linked
    pub alike : (n : ℕ) → n < H.size → key' n ≡ H.key n
    pub larger : H.size ≤ size'
    pub more : (n : ℕ) → In H n → linked n ≡ true
    pub frozen : (n : ℕ) → In H n → mark H n ≡ true → c' n ≡ H.cell n
    pub others : (n : ℕ) → n < H.size → n ≢ own → H.linked n ≡ false → (linked n ≡ false) × (c' n ≡ H.cell n)

  in_ne : (n u : ℕ) → In H u → H.linked n ≡ false → n ≢ u
  in_ne n u l f e = true≢false (sym l ∙ ap H.linked (sym e) ∙ f)

  marks_ne : (n u : ℕ) → mark H u ≡ false → mark H n ≡ true → n ≢ u
  marks_ne n u f t e = true≢false (sym t ∙ ap (mark H) e ∙ f)

  -- a write to a linked node, with no more nodes linked
  stepped_at : (c' : ℕ → Cell) (own x : ℕ) → In H x → mark H x ≡ false → ((n : ℕ) → n ≢ x → c' n ≡ H.cell n) → Chained before c' H.key H.size H.linked → Stepped c' H.key H.size own
  stepped_at c' own x l m off ok = record {
    linked = H.linked;
    ok = ok;
    alike = λ n fit. refl;
    larger = omega arith;
    more = λ n li. li;
    frozen = λ n li t. off n (marks_ne n x m t);
    others = λ n fit ne f. (f, off n (in_ne n x l f));
  }

  module _ (o : NestOp K) (own : ℕ) where
    abbrev pub rem : (ℕ → Cell) → Live → ℕ
    rem c ph = remaining before c H.key H.room (key_of o) ph

    pub record Wrote (c' : ℕ → Cell) (ph ph' : Live) : Type 0 where
      pub step : Stepped c' H.key H.size own
      pub owns : Owned H.key H.size step.linked o own
      pub stands : Stands before c' H.key step.linked o own ph'
      pub kept : listing c' H.key (H.room + 2) 0 ≡ list H 0
      pub falls : rem c' ph' < rem H.cell ph

    pub record Did (c' : ℕ → Cell) (a : NestAnswer) : Type 0 where
      pub step : Stepped c' H.key H.size own
      pub told : apply before o (list H 0) ≡ (listing c' H.key (H.room + 2) 0, a)

    abbrev pub Fine : Live → Move → Type 0
    Fine ph (goes ph') = Stands before H.cell H.key H.linked o own ph' × (rem H.cell ph' < rem H.cell ph)
    Fine ph (says a) = apply before o (list H 0) ≡ (list H 0, a)
    Fine ph (writes x v ph') = (x < H.size) × ((c' : ℕ → Cell) → c' x ≡ v → ((n : ℕ) → n ≢ x → c' n ≡ H.cell n) → Wrote c' ph ph')
    Fine ph (does x v a) = (x < H.size) × ((c' : ℕ → Cell) → c' x ≡ v → ((n : ℕ) → n ≢ x → c' n ≡ H.cell n) → Did c' a)

  -- the write of an add's own node
  own_write : (k : K) (own here then : ℕ) (ph : Live) → Owned H.key H.size H.linked (Add k) own → In H here →
      H.cell here ≡ link (Some then) → Lt before (H.key here) (Mid k) → Lt before (Mid k) (H.key then) → In H then → 1 < rem (Add k) own H.cell ph →
      (c' : ℕ → Cell) → c' own ≡ link (Some then) → ((n : ℕ) → n ≢ own → c' n ≡ H.cell n) → Wrote (Add k) own c' ph (Insert here then)
  own_write k own here then ph owns l was below above after budget c' now off =
      let agree : (n : ℕ) → In H n → c' n ≡ H.cell n = λ n li. off n (λ q. in_ne own n li owns.0 (sym q)) in
      let valid : still (c' here) then ≡ true = rw (agree here l) (rw was (still_same (link (Some then)) refl refl)) in
      record {
        step = record {
          linked = H.linked;
          ok = all_chained H c' agree H.key (λ n li. refl) H.size (omega arith);
          alike = λ n fit. refl;
          larger = omega arith;
          more = λ n li. li;
          frozen = λ n li t. agree n li;
          others = λ n fit ne f. (f, off n ne);
        };
        owns = owns;
        stands = (l, below, above, now, after);
        kept = list_agree H c' (λ _. Unit {0}) (λ _ _ _ _. tt) (λ n li _. agree n li) H.key (λ n li. refl) (H.room + 2) 0 H.ok.front_in tt;
        falls = rw valid budget;
      }

  is_link : (n : ℕ) → In H n → n ≢ 1 → mark H n ≡ false → H.cell n ≡ link (Some (next H n))
  is_link n l ne plain = λ i. record { next = H.ok.named n l ne i; mark = plain i }

  -- the rule F
  decide_fine : (o : NestOp K) (own : ℕ) (ph : Live) → Owned H.key H.size H.linked o own →
      (here : ℕ) → In H here → here ≢ 1 → mark H here ≡ false → Le before (H.key here) (Mid (key_of o)) → Lt before (Mid (key_of o)) (H.key (next H here)) →
      1 < rem o own H.cell ph → (s : Bool) → is_key before (key_of o) (H.key here) ≡ s → Fine o own ph (decide before o own s here (next H here))
  decide_fine (Find k) own ph owns here l ne plain le gt spare true e = rw (Sequential.has_here H k here ne plain le gt l ∙ e)
  decide_fine (Find k) own ph owns here l ne plain le gt spare false e = rw (Sequential.has_here H k here ne plain le gt l ∙ e)
  decide_fine (Add k) own ph owns here l ne plain le gt spare true e = rw (Sequential.has_here H k here ne plain le gt l ∙ e)
  decide_fine (Add k) own ph owns here l ne plain le gt spare false e =
      (owns.1, own_write k own here (next H here) ph owns l (is_link here l ne plain) (key_not H.total k (H.key here) le e) gt (H.ok.onward here l ne) spare)
  decide_fine (Drop k) own ph owns here l ne plain le gt spare true e =
      ((l, key_is H.total k (H.key here) e, gt, H.ok.onward here l ne), rw (still_same (H.cell here) (H.ok.named here l ne) plain) spare)
  decide_fine (Drop k) own ph owns here l ne plain le gt spare false e = rw (Sequential.has_here H k here ne plain le gt l ∙ e)

  -- the rule W
  far_is : (o : NestOp K) (here : ℕ) → Le before (H.key here) (Mid (key_of o)) → far before H.cell H.key o here ≡ lt before (Mid (key_of o)) (H.key (next H here))
  far_is o here le = rw le

  plain_fine : (o : NestOp K) (own : ℕ) (ph : Live) → Owned H.key H.size H.linked o own →
      (keep kept here : ℕ) → In H here → here ≢ 1 → mark H here ≡ false → Le before (H.key here) (Mid (key_of o)) →
      far_off H (next H here) + cond (tidy H (key_of o) 0) 1 (H.room + 4) < rem o own H.cell ph →
      (d : Bool) → lt before (Mid (key_of o)) (H.key (next H here)) ≡ d → Fine o own ph (look before H.cell H.key o own keep kept here false d)
  plain_fine o own ph owns keep kept here l ne plain le budget true e =
      let one = one_least (tidy H (key_of o) 0) H.room in
      decide_fine o own ph owns here l ne plain le e (omega arith) (is_key before (key_of o) (H.key here)) refl
  plain_fine o own ph owns keep kept here l ne plain le budget false e = (
    (
      record {
        keep_in = l;
        kept_in = H.ok.onward here l ne;
        leads = Leads.at;
        not_after = le;
        rise = H.ok.rises here l ne;
      },
      e,
    ),
    rw (still_same (H.cell here) (H.ok.named here l ne) plain) budget,
  )

  start_fine : (o : NestOp K) (own : ℕ) → Owned H.key H.size H.linked o own → Fine o own Start (move before H.cell H.key o own Start)
  start_fine o own owns =
      let le : Le before (H.key 0) (Mid (key_of o)) = rw H.ok.low_key (low_first before (Mid (key_of o))) in
      let ne : 0 ≢ 1 = omega arith in
      let near = far_most H (next H 0) (H.ok.onward 0 H.ok.front_in ne) (rw H.ok.low_key at (H.ok.rises 0 H.ok.front_in ne)) in
      rw (H.ok.front_plain, far_is o 0 le)
      (plain_fine o own Start owns 0 0 0 H.ok.front_in ne H.ok.front_plain le (start_walk (tidy H (key_of o) 0) _ H.room near) _ refl)

  -- a node whose key is not after k is not the back
  pub le_not_back : (k : K) (n : ℕ) → Le before (H.key n) (Mid k) → n ≢ 1
  le_not_back k n le e = true≢false (sym (high_last before k) ∙ rw (e, H.ok.high_key) at le)

  pub held_in : (k : K) (keep kept n : ℕ) → Held before H.cell H.key H.linked k keep kept n → In H n
  held_in k keep kept n h = leads_in H n kept h.leads h.kept_in

  held_more : (k : K) (keep kept n : ℕ) → Held before H.cell H.key H.linked k keep kept n → mark H n ≡ true →
      Held before H.cell H.key H.linked k keep kept (next H n)
  held_more k keep kept n h t = record {
    keep_in = h.keep_in;
    kept_in = h.kept_in;
    leads = leads_more H n kept t h.leads;
    not_after = h.not_after;
    rise = h.rise;
  }

  -- where keep still still keptnext, a marked node before k's place is on the chain
  untidy : (k : K) (keep kept n : ℕ) → Held before H.cell H.key H.linked k keep kept n → mark H n ≡ true → Le before (H.key n) (Mid k) →
      Lt before (Mid k) (H.key (next H n)) → still (H.cell keep) kept ≡ true → tidy H k 0 ≡ false
  untidy k keep kept n h t le gt v =
      let is = still_is (H.cell keep) kept v in
      let r = Heap.reach_more H keep 0 (le_not_back k keep h.not_after) (H.ok.chained keep h.keep_in (ap (λ (d : Cell). d.mark) is)) in
      let r' = Heap.reach_leads H n kept 0 h.leads (subst (λ (d : Cell). Reach H.cell (node d.next) 0) is r) in
      Sequential.tidy_from H k n (marked_ne H n t) le gt 0 r' H.ok.front_in ∙ ap not t

  walk_skip : (v t : Bool) (x r : ℕ) → (v ≡ true → t ≡ false) → x + cond v (r + 4) (r + r + 7) < suc x + cond v (cond t 1 (r + 4)) (r + r + 7)
  walk_skip true true x r h = absurd (true≢false (h refl))
  walk_skip true false x r h = omega arith
  walk_skip false t x r h = omega arith

  marked_fine : (o : NestOp K) (own keep kept n : ℕ) → Held before H.cell H.key H.linked (key_of o) keep kept n → mark H n ≡ true →
      Le before (H.key n) (Mid (key_of o)) → (d : Bool) → lt before (Mid (key_of o)) (H.key (next H n)) ≡ d →
      Fine o own (Walk keep kept n) (look before H.cell H.key o own keep kept n true d)
  marked_fine o own keep kept n h t le true e = (
    (held_more (key_of o) keep kept n h t, e),
    rw (far_next H n (held_in (key_of o) keep kept n h) (marked_ne H n t)) (walk_skip (still (H.cell keep) kept) (tidy H (key_of o) 0) _ H.room (untidy (key_of o) keep kept n h t le e)),
  )
  marked_fine o own keep kept n h t le false e =
      ((held_more (key_of o) keep kept n h t, e), rw (far_next H n (held_in (key_of o) keep kept n h) (marked_ne H n t)) (omega arith))

  walk_fine : (o : NestOp K) (own keep kept n : ℕ) → Owned H.key H.size H.linked o own → Stands before H.cell H.key H.linked o own (Walk keep kept n) →
      (b : Bool) → mark H n ≡ b → Fine o own (Walk keep kept n) (look before H.cell H.key o own keep kept n b (far before H.cell H.key o n))
  walk_fine o own keep kept n owns st true e = rw (far_is o n st.1) (marked_fine o own keep kept n st.0 e st.1 _ refl)
  walk_fine o own keep kept n owns st false e =
      let l = held_in (key_of o) keep kept n st.0 in let ne = le_not_back (key_of o) n st.1 in
      rw (far_is o n st.1)
      (plain_fine o own (Walk keep kept n) owns keep kept n l ne e st.1
      (rw (far_next H n l ne) (walk_walk (still (H.cell keep) kept) (tidy H (key_of o) 0) _ H.room)) _ refl)

  skip_fine : (o : NestOp K) (own keep kept n : ℕ) → Stands before H.cell H.key H.linked o own (Skip keep kept n) →
      (b : Bool) → mark H n ≡ b → Fine o own (Skip keep kept n) (cond b (goes (Skip keep kept (next H n))) (goes (Unlink keep kept n)))
  skip_fine o own keep kept n st true e =
      let l = held_in (key_of o) keep kept n st.0 in (
        (held_more (key_of o) keep kept n st.0 e, lt_trans H.total _ _ _ st.1 (H.ok.rises n l (marked_ne H n e))),
        rw (far_next H n l (marked_ne H n e)) (omega arith),
      )
  skip_fine o own keep kept n st false e = (st, skip_unlink (still (H.cell keep) kept) _ H.room)

  unlink_fine : (o : NestOp K) (own keep kept here : ℕ) → Owned H.key H.size H.linked o own → Stands before H.cell H.key H.linked o own (Unlink keep kept here) →
      (b : Bool) → still (H.cell keep) kept ≡ b → Fine o own (Unlink keep kept here) (cond b (writes keep (link (Some here)) Start) (goes Start))
  unfolding stepped_at
  unlink_fine o own keep kept here owns st true e =
      let h = st.0 in let ne = le_not_back (key_of o) keep h.not_after in let was = still_is (H.cell keep) kept e in
      let plain : mark H keep ≡ false = ap (λ (d : Cell). d.mark) was in (
        H.ok.fits keep h.keep_in,
        λ c' now off.
            let ok' = unlink_ok H c' keep kept here h.keep_in ne was h.leads now off in
            let H' = moved H c' H.linked ok' in
            let r = H'.ok.chained keep h.keep_in (rw now) in
            let tidied : tidy H' (key_of o) 0 ≡ true = Sequential.tidy_from H' (key_of o) keep ne h.not_after (rw now st.1) 0 r H.ok.front_in ∙ rw now in
            record {
              step = stepped_at c' own keep h.keep_in plain off ok';
              owns = owns;
              stands = tt;
              kept = unlink_list H c' keep kept here h.keep_in ne was h.leads now off;
              falls = rw (tidied, e) (omega arith);
            },
      )
  unlink_fine o own keep kept here owns st false e = (tt, rw e (again (tidy H (key_of o) 0) H.room))

  insert_fine : (o : NestOp K) (own here then : ℕ) → Owned H.key H.size H.linked o own → Stands before H.cell H.key H.linked o own (Insert here then) →
      (b : Bool) → still (H.cell here) then ≡ b → Fine o own (Insert here then) (cond b (does here (link (Some own)) Added) (goes Start))
  insert_fine (Add k) own here then owns st true e =
      let was = still_is (H.cell here) then e in
      let le = lt_no H.total _ _ st.1 in
      let ne = le_not_back k here le in
      let plain : mark H here ≡ false = ap (λ (d : Cell). d.mark) was in
      let gt : Lt before (Mid k) (H.key (next H here)) = subst (λ (d : Cell). Lt before (Mid k) (H.key (node d.next))) (sym was) st.2 in (
        H.ok.fits here st.0,
        λ c' now off.
            record {
              step = record {
                linked = joined H c' here then own k st.0 ne st.1 st.2 was owns.0 owns.1 owns.2 st.3 now off;
                ok = insert_ok H c' here then own k st.0 ne st.1 st.2 was owns.0 owns.1 owns.2 st.3 now off;
                alike = λ n fit. refl;
                larger = omega arith;
                more = joins H c' here then own k st.0 ne st.1 st.2 was owns.0 owns.1 owns.2 st.3 now off;
                frozen = λ n li t. off n (marks_ne n here plain t);
                others = λ n fit d f. (or_from (eqb n own) (H.linked n) (ne_eqb n own d) f, off n (in_ne n here st.0 f));
              };
              told =
                  rw (Sequential.has_here H k here ne plain le gt st.0 ∙ not_key_before H.total k (H.key here) st.1)
                  (ap (λ (r : List K). (r, Added)) (sym (insert_list H c' here then own k st.0 ne st.1 st.2 was owns.0 owns.1 owns.2 st.3 now off)));
            },
      )
  insert_fine (Add k) own here then owns st false e = (tt, rw e (again (tidy H k 0) H.room))
  insert_fine (Drop k) own here then owns st b e = elim st [ ]
  insert_fine (Find k) own here then owns st b e = elim st [ ]

  strike_fine : (o : NestOp K) (own here then : ℕ) → Stands before H.cell H.key H.linked o own (Strike here then) →
      (b : Bool) → still (H.cell here) then ≡ b → Fine o own (Strike here then) (cond b (does here (gone (Some then)) Dropped) (goes Start))
  strike_fine (Add k) own here then st b e = elim st [ ]
  strike_fine (Find k) own here then st b e = elim st [ ]
  strike_fine (Drop k) own here then st true e =
      let was = still_is (H.cell here) then e in
      let le : Le before (H.key here) (Mid k) = rw st.1 (lt_irr H.total (Mid k)) in
      let ne = le_not_back k here le in
      let plain : mark H here ≡ false = ap (λ (d : Cell). d.mark) was in
      let gt : Lt before (Mid k) (H.key (next H here)) = subst (λ (d : Cell). Lt before (Mid k) (H.key (node d.next))) (sym was) st.2 in (
        H.ok.fits here st.0,
        λ c' now off.
            let ok' = strike_ok H c' here then k st.0 ne st.1 was now off in
            record {
              step = stepped_at c' own here st.0 plain off ok';
              told =
                  rw (Sequential.has_here H k here ne plain le gt st.0 ∙ ap (is_key before k) st.1 ∙ key_self H.total k)
                  (ap (λ (r : List K). (r, Dropped)) (sym (strike_list H c' here then k st.0 ne st.1 was now off)));
            },
      )
  strike_fine (Drop k) own here then st false e = (tt, rw e (again (tidy H k 0) H.room))

  pub fine : (o : NestOp K) (own : ℕ) (ph : Live) → Owned H.key H.size H.linked o own → Stands before H.cell H.key H.linked o own ph →
      Fine o own ph (move before H.cell H.key o own ph)
  fine o own Start owns st = start_fine o own owns
  fine o own (Walk keep kept n) owns st = walk_fine o own keep kept n owns st _ refl
  fine o own (Skip keep kept n) owns st = skip_fine o own keep kept n st _ refl
  fine o own (Unlink keep kept n) owns st = unlink_fine o own keep kept n owns st _ refl
  fine o own (Insert here then) owns st = insert_fine o own here then owns st _ refl
  fine o own (Strike here then) owns st = strike_fine o own here then st _ refl
