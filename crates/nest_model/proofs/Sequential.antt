-- How the operations of the plain nest pass the keys of a heap, and when the node before a key's place is unmarked.
use Rattle.std.proofs.Common.{◌≡◌, ℕ, ◌+◌, Bool, true, false, cond, not, ◌||◌, ◌≢◌, List, ◌∷◌, sym, refl, ap, ◌∙◌, ⊎_elim, true≢false}
use Rattle.std.proofs.lemmas.Bool.{cases_Bool}
use Rattle.keys.specs.Order.{Total}
use Rattle.nest_model.specs.Ends.{Extended, Low, Mid, High, lt, Lt, Le, is_key}
use Rattle.nest_model.specs.Chain.{push, clean, Reach}
use Rattle.plain_model.specs.Nest.{has, insert, remove}
use Rattle.nest_model.proofs.Orders.{lt_trans, lt_no, lt_le, not_key_before, not_key_after}
use Rattle.nest_model.proofs.Heap.{Heap, In, next, mark, along, fold_next, list, list_marked, list_plain, list_back, before_end, reach_le}

-- how the sequential operations pass a key
module _ {K : Type 0} {before : K → K → Bool} (total : Total before) (k : K) where
  or_false : (a b : Bool) → b ≡ false → (a || b) ≡ a
  or_false true b e = refl
  or_false false b e = e

  pub has_past : (x : Extended K) (r : List K) → Lt before x (Mid k) → has before k (push x r) ≡ has before k r
  has_past Low r l = refl
  has_past (Mid x) r l = ap (λ b. b || has before k r) (not_key_before total k (Mid x) l)
  has_past High r l = refl

  pub has_push : (x : Extended K) (r : List K) → Le before x (Mid k) → has before k r ≡ false → has before k (push x r) ≡ is_key before k x
  unfolding lt
  has_push Low r l h = h
  has_push (Mid x) r l h = or_false (is_key before k (Mid x)) (has before k r) h
  has_push High r l h = absurd (true≢false l)

  pub has_not : (x : Extended K) (r : List K) → Lt before (Mid k) x → has before k r ≡ false → has before k (push x r) ≡ false
  has_not Low r l h = h
  has_not (Mid x) r l h = or_false (is_key before k (Mid x)) (has before k r) h ∙ not_key_after total k (Mid x) l
  has_not High r l h = h

  pub insert_past : (x : Extended K) (r : List K) → Lt before x (Mid k) → insert before k (push x r) ≡ push x (insert before k r)
  unfolding lt
  insert_past Low r l = refl
  insert_past (Mid x) r l = rw l
  insert_past High r l = refl

  pub insert_stop : (x : Extended K) (r : List K) → Lt before (Mid k) x → insert before k r ≡ k ∷ r → insert before k (push x r) ≡ k ∷ push x r
  unfolding lt
  insert_stop Low r l h = h
  insert_stop (Mid x) r l h = let e : before x k ≡ false = lt_no total (Mid k) (Mid x) l in rw e
  insert_stop High r l h = h

  pub remove_past : (x : Extended K) (r : List K) → Lt before x (Mid k) → remove before k (push x r) ≡ push x (remove before k r)
  remove_past Low r l = refl
  remove_past (Mid x) r l = rw (not_key_before total k (Mid x) l)
  remove_past High r l = refl

module _ {K : Type 0} {before : K → K → Bool} (H : Heap before) (k : K) where
  pub has_none : (n : ℕ) → In H n → Lt before (Mid k) (H.key n) → has before k (list H n) ≡ false
  has_none =
      along H (λ n. Lt before (Mid k) (H.key n) → has before k (list H n) ≡ false) (λ a. rw (list_back H))
      (λ n l ne ih a.
      let h = ih (lt_trans H.total (Mid k) (H.key n) (H.key (next H n)) a (H.ok.rises n l ne)) in
      ⊎_elim (λ t. ap (has before k) (list_marked H n l t) ∙ h) (λ t. ap (has before k) (list_plain H n l ne t) ∙ has_not H.total k (H.key n) _ a h) (cases_Bool (mark H n)))

  pub insert_first : (n : ℕ) → In H n → Lt before (Mid k) (H.key n) → insert before k (list H n) ≡ k ∷ list H n
  insert_first =
      along H (λ n. Lt before (Mid k) (H.key n) → insert before k (list H n) ≡ k ∷ list H n) (λ a. rw (list_back H))
      (λ n l ne ih a.
      let h = ih (lt_trans H.total (Mid k) (H.key n) (H.key (next H n)) a (H.ok.rises n l ne)) in
      ⊎_elim (λ t. rw (list_marked H n l t) h) (λ t. rw (list_plain H n l ne t) (insert_stop H.total k (H.key n) _ a h)) (cases_Bool (mark H n)))

  -- the unmarked node before k's place says whether k is in
  module _ (u : ℕ) (ne₁ : u ≢ 1) (plain : mark H u ≡ false) (le : Le before (H.key u) (Mid k)) (gt : Lt before (Mid k) (H.key (next H u))) where
    has_from : (n : ℕ) → Reach H.cell u n → In H n → has before k (list H n) ≡ is_key before k (H.key u)
    has_from n Reach.at l =
        ap (has before k) (list_plain H u l ne₁ plain) ∙ has_push H.total k (H.key u) _ le (has_none (next H u) (H.ok.onward u l ne₁) gt)
    has_from n (Reach.via ne r) l =
        let ih = has_from (next H n) r (H.ok.onward n l ne) in
        let b = lt_le H.total _ _ _ (before_end H u n l ne r) le in
        ⊎_elim (λ t. ap (has before k) (list_marked H n l t) ∙ ih) (λ t. ap (has before k) (list_plain H n l ne t) ∙ has_past H.total k (H.key n) _ b ∙ ih) (cases_Bool (mark H n))

    pub has_here : In H u → has before k (list H 0) ≡ is_key before k (H.key u)
    has_here l = has_from 0 (H.ok.chained u l plain) H.ok.front_in

  -- whether the node before k's place is unmarked
  abbrev pub tidy : ℕ → Bool
  tidy n = clean before H.cell H.key k (H.room + 2) n

  module _ (u : ℕ) (ne₁ : u ≢ 1) (le : Le before (H.key u) (Mid k)) (gt : Lt before (Mid k) (H.key (next H u))) where
    tidy_next : (n : ℕ) → In H n → n ≢ 1 → tidy n ≡ cond (lt before (Mid k) (H.key (next H n))) (not (mark H n)) (tidy (next H n))
    tidy_next n l ne = fold_next H (λ i r. cond (lt before (Mid k) (H.key (next H i))) (not (mark H i)) r) true n l ne

    pub tidy_from : (n : ℕ) → Reach H.cell u n → In H n → tidy n ≡ not (mark H u)
    tidy_from n Reach.at l = tidy_next u l ne₁ ∙ rw gt
    tidy_from n (Reach.via ne r) l =
        let ih = tidy_from (next H n) r (H.ok.onward n l ne) in
        let b = reach_le H u (next H n) r (H.ok.onward n l ne) in
        tidy_next n l ne ∙ rw (le_trans (H.key (next H n)) b) ih
      where
        le_trans : (x : Extended K) → Le before x (H.key u) → lt before (Mid k) x ≡ false
        le_trans x b = ⊎_elim (λ t. absurd (true≢false (sym (lt_le H.total _ _ _ t b) ∙ le))) (λ t. t) (cases_Bool (lt before (Mid k) x))
