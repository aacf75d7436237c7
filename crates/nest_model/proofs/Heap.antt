-- What holds of one heap: the chain rises to the back, and folds along it have enough fuel.
use Rattle.std.proofs.Common.{◌≡◌, ℕ, zero, suc, ◌+◌, ◌<◌, ◌≤◌, Bool, true, false, cond, ◌≢◌, List, [], sym, refl, ap, ◌∙◌, subst, ⊎_elim, true≢false, arith}
use Rattle.std.proofs.lemmas.Bool.{cases_eq, ne_eqb}
use Rattle.keys.specs.Order.{Total}
use Rattle.nest_model.specs.declared.cell.Cell.{Cell}
use Rattle.nest_model.specs.Ends.{Extended, Low, lt, Lt, Le}
use Rattle.nest_model.specs.Chain.{after, fold, push, listing, steps_to_back, Reach, Leads}
use Rattle.nest_model.specs.Sound.{Chained}
use Rattle.nest_model.proofs.Orders.{lt_irr, lt_trans, lt_no}
use Rattle.nest_model.proofs.Count.{count, count_lt, count_most}

-- Cells and keys by node, the first `size` nodes taken, and the linked ones among them, in a table that has room.
pub record Heap {K : Type 0} (before : K → K → Bool) : Type 0 where
  pub total : Total before
  pub cell : ℕ → Cell
  pub key : ℕ → Extended K
  pub size : ℕ
  pub room : ℕ
  pub linked : ℕ → Bool
  pub ok : Chained before cell key size linked
  pub enough : size ≤ room + 2

module _ {K : Type 0} {before : K → K → Bool} (H : Heap before) where
  abbrev pub In : ℕ → Type 0
  In n = H.linked n ≡ true

  abbrev pub next : ℕ → ℕ
  next n = after H.cell n

  abbrev pub mark : ℕ → Bool
  mark n = (H.cell n).mark

  -- how many nodes have a key after that of n
  pub height : ℕ → ℕ
  height n = count (λ i. lt before (H.key n) (H.key i)) H.size

  pub height_falls : (n u : ℕ) → u < H.size → Lt before (H.key n) (H.key u) → height u < height n
  unfolding height
  height_falls n u f l = count_lt _ _ H.size u f (lt_irr H.total (H.key u)) l (λ i. lt_trans H.total (H.key n) (H.key u) (H.key i) l)

  pub height_next : (n : ℕ) → In n → n ≢ 1 → height (next n) < height n
  height_next n l ne = height_falls n (next n) (H.ok.fits _ (H.ok.onward n l ne)) (H.ok.rises n l ne)

  pub height_most : (n : ℕ) → n < H.size → height n < H.size
  unfolding height
  height_most n f =
      let a = count_lt (λ i. lt before (H.key n) (H.key i)) (λ i. true) H.size n f (lt_irr H.total (H.key n)) refl (λ i e. refl) in
      omega (arith, a, count_most (λ i. true) H.size)

  -- what still of the back, and of a node if of its next, still of each linked node
  pub along : (P : ℕ → Type 0) → P 1 → ((n : ℕ) → In n → n ≢ 1 → P (next n) → P n) → (n : ℕ) → In n → P n
  along P end more n l = go (height n) n l (omega arith)
    where
      go : (f : ℕ) (n : ℕ) → In n → height n ≤ f → P n
      go zero n l h = ⊎_elim (λ e. subst P (sym e) end) (λ ne. absurd (let a = height_next n l ne in omega arith)) (cases_eq n 1)
      go (suc f) n l h =
          ⊎_elim (λ e. subst P (sym e) end)
          (λ ne. more n l ne (go f (next n) (H.ok.onward n l ne) (let a = height_next n l ne in omega arith)))
          (cases_eq n 1)

  module _ {A : Type 0} (s : ℕ → A → A) (z : A) where
    fold_on : (f n : ℕ) → n ≢ 1 → fold H.cell s z (suc f) n ≡ s n (fold H.cell s z f (next n))
    fold_on f n ne = rw (ne_eqb n 1 ne)

    fold_stable : (f n : ℕ) → In n → height n ≤ f → fold H.cell s z (suc f) n ≡ fold H.cell s z f n
    fold_stable zero n l h =
        ⊎_elim (λ e. rw e refl) (λ ne. absurd (let a = height_next n l ne in omega arith)) (cases_eq n 1)
    fold_stable (suc f) n l h =
        ⊎_elim (λ e. rw e refl)
        (λ ne.
        fold_on (suc f) n ne ∙
        ap (s n) (fold_stable f (next n) (H.ok.onward n l ne) (let a = height_next n l ne in omega arith)) ∙ sym (fold_on f n ne))
        (cases_eq n 1)

    pub fold_next : (n : ℕ) → In n → n ≢ 1 → fold H.cell s z (H.room + 2) n ≡ s n (fold H.cell s z (H.room + 2) (next n))
    fold_next n l ne =
        let b = height_most n (H.ok.fits n l) in let e = H.enough in
        sym (fold_stable (H.room + 2) n l (omega arith)) ∙ fold_on (H.room + 2) n ne

    fold_end : (f : ℕ) → fold H.cell s z f 1 ≡ z
    fold_end zero = refl
    fold_end (suc f) = refl

    pub fold_back : fold H.cell s z (H.room + 2) 1 ≡ z
    fold_back = fold_end (H.room + 2)

  -- marked nodes are not the back, and lead on
  pub marked_ne : (n : ℕ) → mark n ≡ true → n ≢ 1
  marked_ne n t e = true≢false (sym (rw e at t) ∙ H.ok.back_plain)

  pub leads_in : (u n : ℕ) → Leads H.cell u n → In n → In u
  leads_in u n Leads.at l = l
  leads_in u n (Leads.via t r) l = leads_in u (next n) r (H.ok.onward n l (marked_ne n t))

  pub leads_after : (x : Extended K) (u n : ℕ) → Leads H.cell u n → In n → Lt before x (H.key n) → Lt before x (H.key u)
  leads_after x u n Leads.at l a = a
  leads_after x u n (Leads.via t r) l a =
      leads_after x u (next n) r (H.ok.onward n l (marked_ne n t)) (lt_trans H.total x (H.key n) _ a (H.ok.rises n l (marked_ne n t)))

  pub reach_in : (u n : ℕ) → Reach H.cell u n → In n → In u
  reach_in u n Reach.at l = l
  reach_in u n (Reach.via ne r) l = reach_in u (next n) r (H.ok.onward n l ne)

  pub reach_after : (x : Extended K) (u n : ℕ) → Reach H.cell u n → In n → Lt before x (H.key n) → Lt before x (H.key u)
  reach_after x u n Reach.at l a = a
  reach_after x u n (Reach.via ne r) l a = reach_after x u (next n) r (H.ok.onward n l ne) (lt_trans H.total x (H.key n) _ a (H.ok.rises n l ne))

  -- a way on from n to u that is not at u yet
  pub before_end : (u n : ℕ) → In n → n ≢ 1 → Reach H.cell u (next n) → Lt before (H.key n) (H.key u)
  before_end u n l ne r = reach_after (H.key n) u (next n) r (H.ok.onward n l ne) (H.ok.rises n l ne)

  pub reach_le : (u n : ℕ) → Reach H.cell u n → In n → Le before (H.key n) (H.key u)
  reach_le u n Reach.at l = lt_irr H.total (H.key n)
  reach_le u n (Reach.via ne r) l = lt_no H.total _ _ (before_end u n l ne r)

  pub reach_more : (u n : ℕ) → u ≢ 1 → Reach H.cell u n → Reach H.cell (next u) n
  reach_more u n e Reach.at = Reach.via e Reach.at
  reach_more u n e (Reach.via ne r) = Reach.via ne (reach_more u (next n) e r)

  pub reach_leads : (v u n : ℕ) → Leads H.cell v u → Reach H.cell u n → Reach H.cell v n
  reach_leads v u n Leads.at r = r
  reach_leads v u n (Leads.via t w) r = reach_leads v (next u) n w (reach_more u n (marked_ne u t) r)

  -- an unmarked node beyond marked ones is beyond where those lead
  pub reach_skip : (u v n : ℕ) → mark u ≡ false → Leads H.cell v n → Reach H.cell u n → Reach H.cell u v
  reach_skip u v n m Leads.at r = r
  reach_skip u v n m (Leads.via t w) Reach.at = absurd (true≢false (sym t ∙ m))
  reach_skip u v n m (Leads.via t w) (Reach.via ne r) = reach_skip u v (next n) m w r

  pub leads_more : (u n : ℕ) → mark u ≡ true → Leads H.cell u n → Leads H.cell (next u) n
  leads_more u n t Leads.at = Leads.via t Leads.at
  leads_more u n t (Leads.via s w) = Leads.via s (leads_more u (next n) t w)

  -- the steps to the back
  abbrev pub far_off : ℕ → ℕ
  far_off n = steps_to_back H.cell (H.room + 2) n

  pub far_next : (n : ℕ) → In n → n ≢ 1 → far_off n ≡ suc (far_off (next n))
  far_next n l ne = fold_next (λ i r. suc r) 0 n l ne

  pub far_height : (n : ℕ) → In n → far_off n ≤ height n
  far_height =
      along (λ n. far_off n ≤ height n) (let e = fold_back (λ i r. suc r) 0 in omega arith)
      (λ n l ne h. let a = height_next n l ne in omega (arith, far_next n l ne))

  pub far_most : (n : ℕ) → In n → Lt before Low (H.key n) → far_off n ≤ H.room
  far_most n l a =
      let b : Lt before (H.key 0) (H.key n) = rw H.ok.low_key a in
      let d = height_falls 0 n (H.ok.fits n l) b in let e = height_most 0 (H.ok.fits 0 H.ok.front_in) in
      let f = H.enough in omega (arith, far_height n l)

  -- the keys from a node on
  abbrev pub list : ℕ → List K
  list n = listing H.cell H.key (H.room + 2) n

  pub list_next : (n : ℕ) → In n → n ≢ 1 → list n ≡ cond (mark n) (list (next n)) (push (H.key n) (list (next n)))
  list_next n l ne = fold_next (λ i r. cond (mark i) r (push (H.key i) r)) [] n l ne

  pub list_marked : (n : ℕ) → In n → mark n ≡ true → list n ≡ list (next n)
  list_marked n l t = list_next n l (marked_ne n t) ∙ rw t

  pub list_plain : (n : ℕ) → In n → n ≢ 1 → mark n ≡ false → list n ≡ push (H.key n) (list (next n))
  list_plain n l ne t = list_next n l ne ∙ rw t

  pub list_back : list 1 ≡ []
  list_back = fold_back (λ i r. cond (mark i) r (push (H.key i) r)) []

  pub list_leads : (u n : ℕ) → Leads H.cell u n → In n → list n ≡ list u
  list_leads u n Leads.at l = refl
  list_leads u n (Leads.via t w) l = list_marked n l t ∙ list_leads u (next n) w (H.ok.onward n l (marked_ne n t))
