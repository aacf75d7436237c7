-- What a constructor makes: the value that the range's test allows, whichever proof of the range it carries.
use Rattle.std.specs.Prelude.{◌≡◌, ℕ, ◌<◌, Bool, true, false, refl}
use Rattle.std.proofs.Common.{ap, arith}
use Rattle.std.proofs.Math.Bool.{Bool-set}
use Rattle.std.proofs.lemmas.Bool.{false≢true}
use Rattle.std.proofs.lemmas.Bool.Decides.{nat_tests}
use Rattle.keys.specs.Ranges.{if_so, catalogued}

pub if_so_lem : {A : Type 0} (b : Bool) (f : b ≡ true → A) (x : A) (p : b ≡ true) → f p ≡ if_so b f x
if_so_lem true f x p = ap f (Bool-set true true p refl)
if_so_lem false f x p = absurd (false≢true p)

-- a letter of the catalogue is ASCII
pub catalogued_ascii : (letter number : ℕ) → catalogued letter number ≡ true → letter < 128
catalogued_ascii letter number e = grind (arith, nat_tests)
