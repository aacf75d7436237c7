-- The keys with one end before and one end after all of them.
use Rattle.std.specs.Prelude.{◌≡◌, Bool, true, false}
use Rattle.plain_model.specs.Nest.{same}

pub data Extended (K : Type 0) : Type 0 where
  Low : Extended K
  Mid : K → Extended K
  High : Extended K

module _ {K : Type 0} (before : K → K → Bool) where
  -- the order of the keys, from one end to the other
  unfoldable pub lt : Extended K → Extended K → Bool
  lt Low Low = false
  lt Low (Mid y) = true
  lt Low High = true
  lt (Mid x) Low = false
  lt (Mid x) (Mid y) = before x y
  lt (Mid x) High = true
  lt High Low = false
  lt High (Mid y) = false
  lt High High = false

  abbrev pub Lt : Extended K → Extended K → Type 0
  Lt x y = lt x y ≡ true

  -- not after
  abbrev pub Le : Extended K → Extended K → Type 0
  Le x y = lt y x ≡ false

  -- whether it is after the key k
  abbrev pub is_after : K → Extended K → Bool
  is_after k Low = false
  is_after k (Mid x) = before k x
  is_after k High = true

  -- whether it is the key k
  abbrev pub is_key : K → Extended K → Bool
  is_key k Low = false
  is_key k (Mid x) = same before k x
  is_key k High = false
