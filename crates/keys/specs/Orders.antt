-- That each order on keys is total: by a view of the key as two numbers, compared by the first and then by the second.
use Rattle.std.specs.Prelude.{◌≡◌, ℕ, ◌<◌, Bool, true, false, cond, ◌⊎◌, Ok, ◌==◌, ◌&&◌, ◌≢◌, refl}
use Rattle.std.proofs.Common.{sym, ap, subst, ◌∙◌, inl, inr, arith}
use Rattle.std.specs.declared.cmp.Ordering.{Ordering}
use Rattle.std.specs.declared.cmp.Ordering.TheVariants.{Less, Equal, Greater}
use Rattle.std.specs.Ordering.{MatchOrdering, is_eq, eq_by_cmp}
use Rattle.std.specs.Cmp.{IsTotalOrder, strict}
use Rattle.std.specs.Bool.{Decides, one_answer}
use Rattle.std.proofs.lemmas.Bool.Decides.{nat_tests}
use Rattle.std.proofs.lemmas.Bool.{cases_order, false≢true}
use Rattle.keys.specs.Order.{ExactlyOne, the_first, the_second, the_third, Total, compared, lexicographic}
use Rattle.keys.specs.Ranges.{wearable, catalogued}
use Rattle.keys.specs.declared.size_label.LetterSize.{LetterSize}
use Rattle.keys.specs.declared.size_label.LetterSize.TheVariants.{Xs, S, M, L, Xl, Xxl}
use Rattle.keys.specs.declared.size_label.WaistSize.{WaistSize}
use Rattle.keys.specs.declared.size_label.SizeLabel.{SizeLabel}
use Rattle.keys.specs.declared.size_label.SizeLabel.TheVariants.{Letter, Waist}
use Rattle.keys.specs.declared.piece_code.PieceCode.{PieceCode}
use Rattle.keys.specs.Sizes as sizes
use Rattle.keys.specs.Pieces as pieces
use Rattle.keys.specs.Makings.{if_so_lem}

lex_lower : (a b c d : ℕ) → a < c → lexicographic a b c d ≡ true
lex_lower a b c d h = grind (arith, nat_tests)

lex_level : (a b c d : ℕ) → a ≡ c → b < d → lexicographic a b c d ≡ true
lex_level a b c d e h = grind (arith, nat_tests)

lex_not : (a b c d : ℕ) → c < a → lexicographic a b c d ≡ false
lex_not a b c d h = grind (arith, nat_tests)

lex_means : (a b c d : ℕ) → lexicographic a b c d ≡ true → (a < c) ⊎ ((a ≡ c) × (b < d))
lex_means a b c d e = grind (arith, nat_tests)

module _ {K : Type 0} (first second : K → ℕ) (injective : (x y : K) → first x ≡ first y → second x ≡ second y → x ≡ y)
    (before : K → K → Bool) (viewed : (x y : K) → before x y ≡ lexicographic (first x) (second x) (first y) (second y)) where
  view_means : (x y : K) → before x y ≡ true → (first x < first y) ⊎ ((first x ≡ first y) × (second x < second y))
  view_means x y e = lex_means (first x) (second x) (first y) (second y) (sym (viewed x y) ∙ e)

  lower : (x y : K) → first x < first y → before x y ≡ true
  lower x y h = viewed x y ∙ lex_lower (first x) (second x) (first y) (second y) h

  level : (x y : K) → first x ≡ first y → second x < second y → before x y ≡ true
  level x y e h = viewed x y ∙ lex_level (first x) (second x) (first y) (second y) e h

  not_after : (x y : K) → before x y ≡ true → before y x ≢ true
  not_after x y h k = opposed (view_means x y h) (view_means y x k)
    where
      opposed : (first x < first y) ⊎ ((first x ≡ first y) × (second x < second y)) → (first y < first x) ⊎ ((first y ≡ first x) × (second y < second x)) → ⊥
      opposed (inl p) (inl q) = omega arith
      opposed (inl p) (inr q) = omega (arith, q.0)
      opposed (inr p) (inl q) = omega (arith, p.0)
      opposed (inr p) (inr q) = omega (arith, p.1, q.1)

  not_itself : (x y : K) → before x y ≡ true → x ≢ y
  not_itself x y h e = not_after x y h (subst (λ z. before z x ≡ true) e (subst (λ z. before x z ≡ true) (sym e) h))

  is_before : (x y : K) → before x y ≡ true → ExactlyOne (before x y ≡ true) (before y x ≡ true) (x ≡ y)
  is_before x y h = the_first h (not_after x y h) (not_itself x y h)

  is_after : (x y : K) → before y x ≡ true → ExactlyOne (before x y ≡ true) (before y x ≡ true) (x ≡ y)
  is_after x y h = the_second (λ k. not_after x y k h) h (λ e. not_itself y x h (sym e))

  one_of : (x y : K) → (first x ≡ first y) ⊎ ((first x < first y) ⊎ (first y < first x)) →
      (second x ≡ second y) ⊎ ((second x < second y) ⊎ (second y < second x)) → ExactlyOne (before x y ≡ true) (before y x ≡ true) (x ≡ y)
  one_of x y (inr (inl h)) k = is_before x y (lower x y h)
  one_of x y (inr (inr h)) k = is_after x y (lower y x h)
  one_of x y (inl e) (inr (inl h)) = is_before x y (level x y e h)
  one_of x y (inl e) (inr (inr h)) = is_after x y (level y x (sym e) h)
  one_of x y (inl e) (inl f) = the_third (λ h. not_itself x y h (injective x y e f)) (λ h. not_itself y x h (sym (injective x y e f))) (injective x y e f)

  carried : (x y z : K) → (first x < first y) ⊎ ((first x ≡ first y) × (second x < second y)) → (first y < first z) ⊎ ((first y ≡ first z) × (second y < second z)) → before x z ≡ true
  carried x y z (inl p) (inl q) = lower x z (omega arith)
  carried x y z (inl p) (inr q) = lower x z (omega (arith, q.0))
  carried x y z (inr p) (inl q) = lower x z (omega (arith, p.0))
  carried x y z (inr p) (inr q) = level x z (p.0 ∙ q.0) (omega (arith, p.1, q.1))

  -- an order that compares two numbers of each key, which tell the key, is total
  pub total_by_view : Total before
  total_by_view = record {
    exactly_one = λ x y. one_of x y (cases_order (first x) (first y)) (cases_order (second x) (second y));
    carries = λ x y z h k. carried x y z (view_means x y h) (view_means y z k);
  }

-- a rank tells its letter size
from_rank : ℕ → LetterSize
from_rank n = cond (n == 0) Xs (cond (n == 1) S (cond (n == 2) M (cond (n == 3) L (cond (n == 4) Xl Xxl))))

ranked : (a : LetterSize) → from_rank (sizes.rank a) ≡ a
unfolding from_rank
ranked Xs = refl
ranked S = refl
ranked M = refl
ranked L = refl
ranked Xl = refl
ranked Xxl = refl

same_rank : (a b : LetterSize) → sizes.rank a ≡ sizes.rank b → a ≡ b
same_rank a b e = sym (ranked a) ∙ ap from_rank e ∙ ranked b

waist_made : (u : WaistSize) → Ok u ≡ sizes.waist_size u.waist u.leg
waist_made u = if_so_lem (wearable u.waist u.leg) _ _ u.fits

same_waist : (u v : WaistSize) → u.waist ≡ v.waist → u.leg ≡ v.leg → u ≡ v
same_waist u v e f = let a = waist_made u in let b = waist_made v in cc

wide : (waist leg : ℕ) → wearable waist leg ≡ true → 0 < waist
wide waist leg e = grind (arith, nat_tests)

-- the view of a size label: its waist and leg, or 0 and the rank of its letters
abbrev waist_of : SizeLabel → ℕ
waist_of (Letter a) = 0
waist_of (Waist w) = w.waist

abbrev leg_of : SizeLabel → ℕ
leg_of (Letter a) = sizes.rank a
leg_of (Waist w) = w.leg

same_label : (x y : SizeLabel) → waist_of x ≡ waist_of y → leg_of x ≡ leg_of y → x ≡ y
same_label (Letter a) (Letter b) e f = ap Letter (same_rank a b f)
same_label (Letter a) (Waist v) e f = absurd (omega (arith, wide v.waist v.leg v.fits))
same_label (Waist u) (Letter b) e f = absurd (omega (arith, wide u.waist u.leg u.fits))
same_label (Waist u) (Waist v) e f = ap Waist (same_waist u v e f)

label_viewed : (x y : SizeLabel) → sizes.before x y ≡ lexicographic (waist_of x) (leg_of x) (waist_of y) (leg_of y)
label_viewed (Letter a) (Letter b) = refl
label_viewed (Letter a) (Waist v) = sym (lex_lower 0 (sizes.rank a) v.waist v.leg (wide v.waist v.leg v.fits))
label_viewed (Waist u) (Letter b) = sym (lex_not u.waist u.leg 0 (sizes.rank b) (wide u.waist u.leg u.fits))
label_viewed (Waist u) (Waist v) = refl

pub size_total : Total sizes.before
size_total = total_by_view waist_of leg_of same_label sizes.before label_viewed

piece_made : (p : PieceCode) → Ok p ≡ pieces.piece_code p.letter p.number
piece_made p = if_so_lem (catalogued p.letter p.number) _ _ p.fits

same_piece : (p q : PieceCode) → p.letter ≡ q.letter → p.number ≡ q.number → p ≡ q
same_piece p q e f = let a = piece_made p in let b = piece_made q in cc

pub piece_total : Total pieces.before
piece_total = total_by_view (λ p. p.letter) (λ p. p.number) same_piece pieces.before (λ p q. refl)

-- Keys compare by a total order as a total order of std does.
module _ {K : Type 0} {before : K → K → Bool} (t : Total before) where
  is_false : (b : Bool) → b ≢ true → b ≡ false
  is_false true n = absurd (n refl)
  is_false false n = refl

  ranked_by : (x y : K) → ExactlyOne (before x y ≡ true) (before y x ≡ true) (x ≡ y) →
      MatchOrdering (compared before x y) (before x y ≡ true) (x ≡ y) (before y x ≡ true)
  ranked_by x y (the_first h n m) =
      subst (λ b. MatchOrdering (cond b Less (cond (before y x) Greater Equal)) (before x y ≡ true) (x ≡ y) (before y x ≡ true)) (sym h) h
  ranked_by x y (the_second n h m) =
      subst (λ b. MatchOrdering (cond b Less (cond (before y x) Greater Equal)) (before x y ≡ true) (x ≡ y) (before y x ≡ true)) (sym (is_false (before x y) n))
      (subst (λ b. MatchOrdering (cond b Greater Equal) (before x y ≡ true) (x ≡ y) (before y x ≡ true)) (sym h) h)
  ranked_by x y (the_third n m e) =
      subst (λ b. MatchOrdering (cond b Less (cond (before y x) Greater Equal)) (before x y ≡ true) (x ≡ y) (before y x ≡ true)) (sym (is_false (before x y) n))
      (subst (λ b. MatchOrdering (cond b Greater Equal) (before x y ≡ true) (x ≡ y) (before y x ≡ true)) (sym (is_false (before y x) m)) e)

  not_self : (x : K) → ExactlyOne (before x x ≡ true) (before x x ≡ true) (x ≡ x) → before x x ≢ true
  not_self x (the_first h n m) = n
  not_self x (the_second n h m) = n
  not_self x (the_third n m e) = n

  pub compared_total : IsTotalOrder (compared before)
  compared_total =
      strict (λ x y. before x y ≡ true) (λ x. not_self x (t.exactly_one x x)) t.carries (compared before) (λ x y. ranked_by x y (t.exactly_one x y))

  -- what compares as equal is one and the same key
  pub compared_equal : (x y : K) → Decides (eq_by_cmp (compared before) x y) (x ≡ y)
  compared_equal x y = decided_by (compared before x y) (ranked_by x y (t.exactly_one x y))
    where
      decided_by : (r : Ordering) → MatchOrdering r (before x y ≡ true) (x ≡ y) (before y x ≡ true) → Decides (is_eq r) (x ≡ y)
      decided_by Less h = (λ e. absurd (false≢true e), λ e. absurd (not_self x (t.exactly_one x x) (subst (λ z. before x z ≡ true) (sym e) h)))
      decided_by Equal h = (λ _. h, λ _. refl)
      decided_by Greater h = (λ e. absurd (false≢true e), λ e. absurd (not_self x (t.exactly_one x x) (subst (λ z. before z x ≡ true) (sym e) h)))

-- an equality of size labels that reads what they hold holds of what their order does not tell apart
module _ (same : SizeLabel → SizeLabel → Bool) (letters : (a b : LetterSize) → Decides (same (Letter a) (Letter b)) (a ≡ b))
    (apart : (a : LetterSize) (v : WaistSize) → same (Letter a) (Waist v) ≡ false) (apart' : (u : WaistSize) (b : LetterSize) → same (Waist u) (Letter b) ≡ false)
    (waists : (u v : WaistSize) → same (Waist u) (Waist v) ≡ (u.waist == v.waist && u.leg == v.leg)) where
  same_measures : (u v : WaistSize) → (u.waist == v.waist && u.leg == v.leg) ≡ true → u ≡ v
  same_measures u v e =
      let f : u.waist ≡ v.waist = grind (arith, nat_tests) in
      let g : u.leg ≡ v.leg = grind (arith, nat_tests) in
      same_waist u v f g

  measures_same : (u v : WaistSize) → u ≡ v → (u.waist == v.waist && u.leg == v.leg) ≡ true
  measures_same u v e =
      let f : u.waist ≡ v.waist = ap (λ w. w.waist) e in
      let g : u.leg ≡ v.leg = ap (λ w. w.leg) e in
      grind (arith, nat_tests)

  same_decides : (x y : SizeLabel) → Decides (same x y) (x ≡ y)
  same_decides (Letter a) (Letter b) = (λ e. ap Letter ((letters a b).0 e), λ e. (letters a b).1 cc)
  same_decides (Letter a) (Waist v) = (λ e. absurd (false≢true (sym (apart a v) ∙ e)), λ e. cc)
  same_decides (Waist u) (Letter b) = (λ e. absurd (false≢true (sym (apart' u b) ∙ e)), λ e. cc)
  same_decides (Waist u) (Waist v) = (λ e. ap Waist (same_measures u v (sym (waists u v) ∙ e)), λ e. waists u v ∙ measures_same u v cc)

  pub label_ties : (x y : SizeLabel) → same x y ≡ eq_by_cmp (compared sizes.before) x y
  label_ties x y = one_answer (same x y) (eq_by_cmp (compared sizes.before) x y) (same_decides x y) (compared_equal size_total x y)
