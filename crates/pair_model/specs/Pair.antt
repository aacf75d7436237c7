-- The pair of two boards as a board: both side by side, a station at one side at a time.
use Rattle.std.specs.Prelude.{◌≡◌, ℕ, min, max, Bool, true, false, cond, ◌&&◌, Ok, Err, Option, Result}
use Rattle.std.specs.Option.{option_map}
use Rattle.keys.specs.declared.refusal.Refusal.{Refusal}
use Rattle.keys.specs.declared.refusal.Refusal.TheVariants.{NotFree}
use Rattle.plain_model.specs.declared.side.Side.{Side}
use Rattle.plain_model.specs.declared.side.Side.TheVariants.{First, Second}
use Rattle.boards.specs.Board.{Steps, Meaning, is_free, mapped, exists, all_free}
use Rattle.boards.specs.declared.outcome.Outcome.{Outcome}
use Rattle.boards.specs.declared.station.Station.{Station}
use Rattle.boards.specs.declared.station.Station.TheVariants.{Free}

-- what a station of the first side is doing, as of the pair
abbrev pub first : {O P A B : Type 0} → Station O A → Station (Side O P) (Side A B)
first s = mapped First First s

-- what a station of the second side is doing, as of the pair
abbrev pub second : {O P A B : Type 0} → Station P B → Station (Side O P) (Side A B)
second s = mapped Second Second s

-- what a station of the pair is doing: it is at the first side unless it is free there
abbrev pub either : {O P A B : Type 0} → Station O A → Station P B → Station (Side O P) (Side A B)
either s t = cond (is_free s) (second t) (first s)

module _ {M N S T O P A B : Type 0} (means : Meaning M S O A) (means' : Meaning N T P B) where
  abbrev pub space : M × N → Side O P → Bool
  space m (First o) = means.space m.0 o
  space m (Second o) = means'.space m.1 o

  -- A pair serves as many stations as its smaller side, and its bound is the larger of the two.
  abbrev pub pair_means : Meaning (M × N) (S × T) (Side O P) (Side A B)
  pair_means = record {
    stations = λ m. min (means.stations m.0) (means'.stations m.1);
    bound = λ m. max (means.bound m.0) (means'.bound m.1);
    contents = λ m. (means.contents m.0, means'.contents m.1);
    station = λ m p. either (means.station m.0 p) (means'.station m.1 p);
    distance = λ m p. cond (is_free (means.station m.0 p)) (means'.distance m.1 p) (means.distance m.0 p);
    space = space;
  }

  -- Both sides are sound, no station is at both, and a station that the pair does not serve is free at both.
  pub record Sound (sound : M → Type 0) (sound' : N → Type 0) (m : M × N) : Type 0 where
    pub first : sound m.0
    pub second : sound' m.1
    pub apart : (p : ℕ) → is_free (means.station m.0 p) ≡ false → means'.station m.1 p ≡ Free
    pub missing_first : (p : ℕ) → exists pair_means m p ≡ false → means.station m.0 p ≡ Free
    pub missing_second : (p : ℕ) → exists pair_means m p ≡ false → means'.station m.1 p ≡ Free

  module _ (steps : Steps M O A) (steps' : Steps N P B) where
    -- begin of an operation at its side, by whether the pair has that station and it is free at both sides
    abbrev pub begin : M × N → ℕ → Side O P → Bool → (M × N) × Bool
    begin m p o false = (m, false)
    begin m p (First o) true = (((steps.begin m.0 p o).0, m.1), (steps.begin m.0 p o).1)
    begin m p (Second o) true = ((m.0, (steps'.begin m.1 p o).0), (steps'.begin m.1 p o).1)

    -- touch, by whether the station is free at the first side: then it goes to the second
    abbrev pub touch : M × N → ℕ → Bool → (M × N) × (Outcome × Option (Side A B))
    touch m p false = (((steps.touch m.0 p).0, m.1), ((steps.touch m.0 p).1.0, option_map First (steps.touch m.0 p).1.1))
    touch m p true = ((m.0, (steps'.touch m.1 p).0), ((steps'.touch m.1 p).1.0, option_map Second (steps'.touch m.1 p).1.1))

    -- release, by the same
    abbrev pub release : M × N → ℕ → Bool → M × N
    release m p false = (steps.release m.0 p, m.1)
    release m p true = (m.0, steps'.release m.1 p)

    abbrev pub pair_steps : Steps (M × N) (Side O P) (Side A B)
    pair_steps = record {
      begin = λ m p o. begin m p o (exists pair_means m p && is_free (pair_means.station m p));
      touch = λ m p. touch m p (is_free (means.station m.0 p));
      release = λ m p. release m p (is_free (means.station m.0 p));
    }

-- two boards can be paired while every station of either is free
abbrev pub checked : {M N S T O P A B : Type 0} → Meaning M S O A → Meaning N T P B → M × N → Result (Unit {0}) Refusal
checked means means' m = cond (all_free means m.0 && all_free means' m.1) (Ok tt) (Err NotFree)
