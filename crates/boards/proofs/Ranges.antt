-- The numbers that an inclusive range yields, as a list, and what is asked of the stations of these numbers.
use Rattle.std.proofs.Common.{◌≡◌, ℕ, zero, suc, ◌+◌, ◌-◌, Bool, true, false, ◌&&◌, List, [], ◌∷◌, length, Some, refl, sym, ap, ◌∙◌, subst, ⊎_elim, arith}
use Rattle.std.specs.declared.ops.RangeInclusive.{RangeInclusive}
use Rattle.std.specs.List.{range_with_len, list_all}
use Rattle.std.specs.Range.{range_inclusive_start, range_inclusive_end, range_inclusive_exhausted, range_inclusive_len}
use Rattle.std.proofs.Math.Bool.{and_assoc, and_comm}
use Rattle.std.proofs.iter.Yields.{listed}
use Rattle.std.proofs.iter.runs.Sources.{nat_range_inclusive_steps}
use Rattle.std.proofs.lemmas.Bool.{cases_Bool}
use Rattle.std.proofs.lemmas.Iterator.{YieldsList}
use Rattle.boards.specs.Board.{Meaning, is_free, free_to}

abbrev left : RangeInclusive ℕ → ℕ
left s = range_inclusive_len (λ x y. y - x) (range_inclusive_start s) (range_inclusive_end s) (range_inclusive_exhausted s)

-- what a range has left
abbrev shown : RangeInclusive ℕ → List ℕ
shown s = range_with_len (range_inclusive_start s) (left s)

-- a list of numbers is its first and the rest
one_more : (a n b m x : ℕ) → n ≡ suc m → x ≡ a → b ≡ a + 1 → range_with_len a n ≡ x ∷ range_with_len b m
one_more a n b m x e f g = ap (range_with_len a) e ∙ ap {B = List ℕ} (λ w. w ∷ range_with_len (a + 1) m) (sym f) ∙ ap {B = List ℕ} (λ w. x ∷ range_with_len w m) (sym g)

one_last : (a n b m x : ℕ) → n ≡ suc m → x ≡ a → m ≡ 0 → range_with_len a n ≡ x ∷ range_with_len b m
one_last a n b m x e f z =
    ap (range_with_len a) (e ∙ ap suc z) ∙ ap {B = List ℕ} (λ w. w ∷ []) (sym f) ∙ ap {B = List ℕ} (λ k. x ∷ range_with_len b k) (sym z)

next : (s : RangeInclusive ℕ) (x : ℕ) (t : RangeInclusive ℕ) → nat_range_inclusive_steps s (Some x) t → shown s ≡ x ∷ shown t
next s x t p =
    let long : left s ≡ suc (left t) = omega (arith, p.1.1) in
    ⊎_elim
    (λ ended. one_last (range_inclusive_start s) (left s) (range_inclusive_start t) (left t) x long p.1.0
    (ap (range_inclusive_len (λ x y. y - x) (range_inclusive_start t) (range_inclusive_end t)) ended))
    (λ on. one_more (range_inclusive_start s) (left s) (range_inclusive_start t) (left t) x long p.1.0 (p.1.2 on))
    (cases_Bool (range_inclusive_exhausted t))

-- a new range from 1 to n yields these numbers, in order
pub YieldsList-from_1_to : {s : RangeInclusive ℕ} (n : ℕ) → range_inclusive_start s ≡ 1 → range_inclusive_end s ≡ n → range_inclusive_exhausted s ≡ false →
    YieldsList nat_range_inclusive_steps (λ x. x) s (range_with_len 1 n)
YieldsList-from_1_to {s} n start end new =
    let long : left s ≡ n = ap (range_inclusive_len (λ x y. y - x) (range_inclusive_start s) (range_inclusive_end s)) new ∙ omega arith in
    let all : shown s ≡ range_with_len 1 n = ap (λ a. range_with_len a (left s)) start ∙ ap (range_with_len 1) long in
    subst (YieldsList nat_range_inclusive_steps (λ x. x) s) all
    (record { runs = listed nat_range_inclusive_steps (λ x. x) shown (λ s t p. ap (λ n. length (range_with_len (range_inclusive_start s) n)) p.1.0) next s })

-- what is asked of each of the numbers up to the last
pub list_all-last : (test : ℕ → Bool) (a n j : ℕ) → a + n ≡ j → list_all test (range_with_len a (suc n)) ≡ test j && list_all test (range_with_len a n)
list_all-last test a zero j e = let same : a ≡ j = omega arith in ap (λ k. test k && true) same
list_all-last test a (suc n) j e =
    let x = test a in
    let y = test j in
    let zs = list_all test (range_with_len (a + 1) n) in
    ap (λ b. x && b) (list_all-last test (a + 1) n j (omega arith)) ∙ sym (and_assoc x y zs) ∙ ap (λ b. b && zs) (and_comm x y) ∙ and_assoc y x zs

module _ {Model Plain Op Answer : Type 0} (means : Meaning Model Plain Op Answer) (m : Model) where
  -- the same asked of the list of their numbers
  pub all_free_list : (n : ℕ) → list_all (λ p. is_free (means.station m p)) (range_with_len 1 n) ≡ free_to means m n
  all_free_list zero = refl
  all_free_list (suc n) =
      list_all-last (λ p. is_free (means.station m p)) 1 n (suc n) (omega arith) ∙ ap (λ b. is_free (means.station m (suc n)) && b) (all_free_list n)
