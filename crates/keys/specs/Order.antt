-- What a total order on keys is.
use Rattle.std.specs.Prelude.{◌≡◌, ℕ, Bool, true, cond, ◌&&◌, ◌||◌, ◌==◌, nat_lt}
use Rattle.std.specs.declared.cmp.Ordering.TheVariants.{Less, Equal, Greater}
use Rattle.std.specs.declared.cmp.Ordering.{Ordering}

-- one of three statements holds, and the other two do not
pub data ExactlyOne (P Q R : Type 0) : Type 0 where
  the_first : P → (Q → ⊥) → (R → ⊥) → ExactlyOne P Q R
  the_second : (P → ⊥) → Q → (R → ⊥) → ExactlyOne P Q R
  the_third : (P → ⊥) → (Q → ⊥) → R → ExactlyOne P Q R

-- A test of keys is a total order.
pub record Total {K : Type 0} (before : K → K → Bool) : Type 0 where
  -- of two keys exactly one holds: the first is before the second, the second before the first, they are one and the same key
  pub exactly_one : (x y : K) → ExactlyOne (before x y ≡ true) (before y x ≡ true) (x ≡ y)
  -- before carries through a third key
  pub carries : (x y z : K) → before x y ≡ true → before y z ≡ true → before x z ≡ true

-- how two keys compare under a test of keys
abbrev pub compared : {K : Type 0} → (K → K → Bool) → K → K → Ordering
compared before x y = cond (before x y) Less (cond (before y x) Greater Equal)

-- two numbers each, compared by the first and then by the second
abbrev pub lexicographic : ℕ → ℕ → ℕ → ℕ → Bool
lexicographic a b c d = nat_lt a c || (a == c && nat_lt b d)
