-- What `contains` answers at a range of numbers.
use Rattle.std.proofs.Common.{◌≡◌, ℕ, Bool, false, cond, ◌&&◌, leb, Some, Option, ap, ◌∙◌, ap₂, arith}
use Rattle.std.specs.declared.cmp.Ordering.{Ordering}
use Rattle.std.specs.Ordering.{nat_cmp, partial_le, partial_lt}
use Rattle.std.proofs.lemmas.Bool.Decides.{nat_tests}

abbrev compare : ℕ → ℕ → Option Ordering
compare x y = Some (nat_cmp x y)

le_is : (x y : ℕ) → partial_le compare x y ≡ leb x y
le_is x y = grind (arith, nat_tests)

pub contains_is : {a b from to : ℕ} {done t : Bool} (x : ℕ) → from ≡ a → to ≡ b → done ≡ false →
    t ≡ (partial_le compare from x && cond done (partial_lt compare x to) (partial_le compare x to)) → t ≡ (leb a x && leb x b)
contains_is {a} {b} {from} {to} {done} {t} x f h d e =
    e
    ∙ ap (λ (c : Bool). partial_le compare from x && cond c (partial_lt compare x to) (partial_le compare x to)) d
    ∙ ap₂ ◌&&◌ (le_is from x) (le_is x to)
    ∙ ap₂ (λ (i j : ℕ). leb i x && leb x j) f h
