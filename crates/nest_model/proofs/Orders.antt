-- The order of keys between their ends is total.
use Rattle.std.proofs.Common.{◌≡◌, Bool, true, false, not, sym, refl, ap, ◌∙◌, ⊎_elim, true≢false}
use mathlib.Core.Bool.{false≢true}
use Rattle.std.proofs.lemmas.Bool.{cases_Bool, and_parts, not-true}
use Rattle.keys.specs.Order.{Total, ExactlyOne, the_first, the_second, the_third}
use Rattle.nest_model.specs.Ends.{Extended, Low, Mid, High, lt, Lt, Le, is_after, is_key}

-- what exactly one of three statements gives for tests of keys
module _ {K : Type 0} {before : K → K → Bool} (total : Total before) where
  before_irr : (x : K) → before x x ≡ false
  before_irr x = go (total.exactly_one x x)
    where
      go : ExactlyOne (before x x ≡ true) (before x x ≡ true) (x ≡ x) → before x x ≡ false
      go (the_first p q r) = absurd (r refl)
      go (the_second p q r) = absurd (r refl)
      go (the_third p q r) = ⊎_elim (λ e. absurd (p e)) (λ e. e) (cases_Bool (before x x))

  before_total : (x y : K) → before x y ≡ false → before y x ≡ false → x ≡ y
  before_total x y a b = go (total.exactly_one x y)
    where
      go : ExactlyOne (before x y ≡ true) (before y x ≡ true) (x ≡ y) → x ≡ y
      go (the_first p q r) = absurd (true≢false (sym p ∙ a))
      go (the_second p q r) = absurd (true≢false (sym q ∙ b))
      go (the_third p q r) = r

  pub lt_irr : (x : Extended K) → lt before x x ≡ false
  unfolding lt
  lt_irr Low = refl
  lt_irr (Mid x) = before_irr x
  lt_irr High = refl

  pub lt_trans : (x y z : Extended K) → Lt before x y → Lt before y z → Lt before x z
  unfolding lt
  lt_trans Low Low z p q = absurd (false≢true p)
  lt_trans Low (Mid y) Low p q = absurd (false≢true q)
  lt_trans Low (Mid y) (Mid z) p q = refl
  lt_trans Low (Mid y) High p q = refl
  lt_trans Low High z p q = absurd (false≢true (no_high z ∙ q))
    where
      no_high : (z : Extended K) → false ≡ lt before High z
      no_high Low = refl
      no_high (Mid x) = refl
      no_high High = refl
  lt_trans (Mid x) Low z p q = absurd (false≢true p)
  lt_trans (Mid x) (Mid y) Low p q = absurd (false≢true q)
  lt_trans (Mid x) (Mid y) (Mid z) p q = total.carries x y z p q
  lt_trans (Mid x) (Mid y) High p q = refl
  lt_trans (Mid x) High Low p q = absurd (false≢true q)
  lt_trans (Mid x) High (Mid z) p q = absurd (false≢true q)
  lt_trans (Mid x) High High p q = absurd (false≢true q)
  lt_trans High Low z p q = absurd (false≢true p)
  lt_trans High (Mid y) z p q = absurd (false≢true p)
  lt_trans High High z p q = absurd (false≢true p)

  pub lt_total : (x y : Extended K) → lt before x y ≡ false → lt before y x ≡ false → x ≡ y
  unfolding lt
  lt_total Low Low p q = refl
  lt_total Low (Mid y) p q = absurd (true≢false p)
  lt_total Low High p q = absurd (true≢false p)
  lt_total (Mid x) Low p q = absurd (true≢false q)
  lt_total (Mid x) (Mid y) p q = ap Mid (before_total x y p q)
  lt_total (Mid x) High p q = absurd (true≢false p)
  lt_total High Low p q = absurd (true≢false q)
  lt_total High (Mid y) p q = absurd (true≢false q)
  lt_total High High p q = refl

  pub lt_no : (x y : Extended K) → Lt before x y → lt before y x ≡ false
  lt_no x y p = go (lt before y x) refl
    where
      go : (b : Bool) → lt before y x ≡ b → lt before y x ≡ false
      go true e = absurd (true≢false (sym (lt_trans x y x p e) ∙ lt_irr x))
      go false e = e

  pub lt_le : (x y z : Extended K) → Lt before x y → Le before y z → Lt before x z
  lt_le x y z p q = go (lt before x z) (lt before z x) refl refl
    where
      go : (a b : Bool) → lt before x z ≡ a → lt before z x ≡ b → Lt before x z
      go true b d e = d
      go false true d e = absurd (true≢false (sym (lt_trans z x y e p) ∙ q))
      go false false d e = absurd (true≢false (sym (rw (lt_total x z d e) at p) ∙ q))

  pub le_lt : (x y z : Extended K) → Le before x y → Lt before y z → Lt before x z
  le_lt x y z p q = go (lt before x z) (lt before z x) refl refl
    where
      go : (a b : Bool) → lt before x z ≡ a → lt before z x ≡ b → Lt before x z
      go true b d e = d
      go false true d e = absurd (true≢false (sym (lt_trans y z x q e) ∙ p))
      go false false d e = absurd (true≢false (sym (rw (← (lt_total x z d e)) at q) ∙ p))

  -- a key that is before another is another
  pub lt_ne : (x y : Extended K) → Lt before x y → x ≡ y → ⊥
  lt_ne x y p e = true≢false (sym (rw e at p) ∙ lt_irr y)

  -- what the table's tests of a key say in the order
  pub key_is : (k : K) (x : Extended K) → is_key before k x ≡ true → x ≡ Mid k
  key_is k Low e = absurd (false≢true e)
  key_is k (Mid x) e =
      let parts = and_parts (not (before k x)) (not (before x k)) e in
      ap Mid (before_total x k (not-true _ parts.1) (not-true _ parts.0))
  key_is k High e = absurd (false≢true e)

  pub key_not : (k : K) (x : Extended K) → Le before x (Mid k) → is_key before k x ≡ false → Lt before x (Mid k)
  unfolding lt
  key_not k Low le e = refl
  key_not k (Mid x) le e = ⊎_elim (λ t. t) (λ f. absurd (true≢false (sym (rw le (rw f)) ∙ e))) (cases_Bool (before x k))
  key_not k High le e = absurd (true≢false le)

  pub not_key_before : (k : K) (x : Extended K) → Lt before x (Mid k) → is_key before k x ≡ false
  unfolding lt
  not_key_before k Low l = refl
  not_key_before k (Mid x) l = let e : before k x ≡ false = lt_no (Mid x) (Mid k) l in rw (e, l)
  not_key_before k High l = refl

  pub not_key_after : (k : K) (x : Extended K) → Lt before (Mid k) x → is_key before k x ≡ false
  unfolding lt
  not_key_after k Low l = refl
  not_key_after k (Mid x) l = rw l
  not_key_after k High l = refl

  pub key_self : (k : K) → is_key before k (Mid k) ≡ true
  key_self k = rw (before_irr k)

module _ {K : Type 0} (before : K → K → Bool) where
  pub after_is : (k : K) (x : Extended K) → is_after before k x ≡ lt before (Mid k) x
  unfolding lt
  after_is k Low = refl
  after_is k (Mid x) = refl
  after_is k High = refl

  pub low_first : (x : Extended K) → Le before Low x
  unfolding lt
  low_first Low = refl
  low_first (Mid x) = refl
  low_first High = refl

  pub high_last : (x : K) → Lt before (Mid x) High
  unfolding lt
  high_last x = refl
