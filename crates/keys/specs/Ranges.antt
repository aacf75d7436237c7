-- Which numbers a key or an element may have.
use Rattle.std.specs.Prelude.{◌≡◌, ℕ, Bool, true, false, ◌&&◌, nat_le, refl}

abbrev pub within : ℕ → ℕ → ℕ → Bool
within least most n = nat_le least n && nat_le n most

-- a waist of 40 to 160 and a leg of 50 to 110 centimetres
abbrev pub wearable : ℕ → ℕ → Bool
wearable waist leg = within 40 160 waist && within 50 110 leg

-- a letter A to Z and a number 1 to 999
abbrev pub catalogued : ℕ → ℕ → Bool
catalogued letter number = within 65 90 letter && within 1 999 number

-- 1 to 200 plies
abbrev pub spreadable : ℕ → Bool
spreadable plies = within 1 200 plies

-- 1 to 50 copies
abbrev pub plottable : ℕ → Bool
plottable copies = within 1 50 copies

-- f of the proof where the test is true, else x
abbrev pub if_so : {A : Type 0} → (b : Bool) → (b ≡ true → A) → A → A
if_so true f x = f refl
if_so false f x = x
