-- What a station of a pair is doing, from what it is doing at either side, and what a touch of a side does to the pair.
use Rattle.std.proofs.Common.{◌≡◌, true, false, cond, Option, sym, refl, ap, ◌∙◌, subst}
use Rattle.std.specs.Option.{option_map}
use Rattle.std.proofs.lemmas.Bool.{both_ways}
use Rattle.plain_model.specs.Machine.{Machine}
use Rattle.plain_model.specs.Pair.{pair}
use Rattle.plain_model.specs.declared.side.Side.{Side}
use Rattle.plain_model.specs.declared.side.Side.TheVariants.{First, Second}
use Rattle.boards.specs.Board.{is_free, is_waiting}
use Rattle.boards.specs.Laws.{Touched, goes_uncounted, goes_counted, counts, counts_ready, readies}
use Rattle.boards.specs.declared.outcome.Outcome.{Outcome}
use Rattle.boards.specs.declared.station.Station.{Station}
use Rattle.boards.specs.declared.station.Station.TheVariants.{Free, Uncounted, Counted, Ready}
use Rattle.pair_model.specs.Pair.{first, second, either}

-- true is not false
pub never : {X : Type 0} → true ≡ false → X
never e = absurd (both_ways true e refl)

module _ {O A : Type 0} where
  -- a station that waits is not free
  pub waiting_busy : (s : Station O A) → is_waiting s ≡ true → is_free s ≡ false
  waiting_busy Free e = never (sym e)
  waiting_busy (Uncounted o) e = refl
  waiting_busy (Counted o a) e = refl
  waiting_busy (Ready o a) e = refl

  pub free_idle : (s : Station O A) → s ≡ Free → is_waiting s ≡ false
  free_idle s e = ap is_waiting e

  pub free_not_ready : (s : Station O A) → s ≡ Free → (o : O) (a : A) → s ≡ Ready o a → ⊥
  free_not_ready s free o a ready = both_ways (is_free s) (ap is_free ready) (ap is_free free)

module _ {O P A B : Type 0} where
  -- a station that is not free at the first side is there
  pub either_first : (s : Station O A) (t : Station P B) → is_free s ≡ false → ◌≡◌ {A = Station (Side O P) (Side A B)} (either s t) (first s)
  either_first s t busy = ap (λ b. cond b (second t) (first s)) busy

  -- one that is free at the first side is at the second, if anywhere
  pub either_second : (s : Station O A) (t : Station P B) → s ≡ Free → ◌≡◌ {A = Station (Side O P) (Side A B)} (either s t) (second t)
  either_second s t free = ap (λ x. either x t) free

  -- one that is free at the second side is at the first, if anywhere
  pub either_alone : (s : Station O A) (t : Station P B) → t ≡ Free → ◌≡◌ {A = Station (Side O P) (Side A B)} (either s t) (first s)
  either_alone s t free = ap (λ x. either s x) free ∙ alone s
    where
      alone : (x : Station O A) → ◌≡◌ {A = Station (Side O P) (Side A B)} (either x Free) (first x)
      alone Free = refl
      alone (Uncounted o) = refl
      alone (Counted o a) = refl
      alone (Ready o a) = refl

  -- it waits in the pair where it waits at its side
  pub first_waiting : (s : Station O A) (t : Station P B) → is_free s ≡ false → is_waiting (either s t) ≡ is_waiting s
  first_waiting Free t busy = never busy
  first_waiting (Uncounted o) t busy = refl
  first_waiting (Counted o a) t busy = refl
  first_waiting (Ready o a) t busy = refl

  pub alone_waiting : (s : Station O A) (t : Station P B) → t ≡ Free → is_waiting (either s t) ≡ is_waiting s
  alone_waiting s t free = ap is_waiting (either_alone s t free) ∙ waiting s
    where
      waiting : (x : Station O A) → is_waiting (first {P = P} {B = B} x) ≡ is_waiting x
      waiting Free = refl
      waiting (Uncounted o) = refl
      waiting (Counted o a) = refl
      waiting (Ready o a) = refl

  pub second_waiting : (s : Station O A) (t : Station P B) → s ≡ Free → is_waiting (either s t) ≡ is_waiting t
  second_waiting s t free = ap is_waiting (either_second s t free) ∙ waiting t
    where
      waiting : (x : Station P B) → is_waiting (second {O = O} {A = A} x) ≡ is_waiting x
      waiting Free = refl
      waiting (Uncounted o) = refl
      waiting (Counted o a) = refl
      waiting (Ready o a) = refl

  -- one that is free in the pair is free at both sides
  pub either_free : (s : Station O A) (t : Station P B) → is_free (either s t) ≡ true → (s ≡ Free) × (t ≡ Free)
  either_free Free Free e = (refl, refl)
  either_free Free (Uncounted o) e = never (sym e)
  either_free Free (Counted o a) e = never (sym e)
  either_free Free (Ready o a) e = never (sym e)
  either_free (Uncounted o) t e = never (sym e)
  either_free (Counted o a) t e = never (sym e)
  either_free (Ready o a) t e = never (sym e)

  -- one that is ready in the pair is ready at its side
  pub first_ready : (s : Station O A) (o : Side O P) (a : Side A B) → first s ≡ Ready o a → (x : O) × ((y : A) × (s ≡ Ready x y))
  first_ready Free o a e = never (ap is_free e)
  first_ready (Uncounted u) o a e = never (ap is_waiting e)
  first_ready (Counted u b) o a e = never (ap is_waiting e)
  first_ready (Ready u b) o a e = (u, (b, refl))

  pub second_ready : (t : Station P B) (o : Side O P) (a : Side A B) → second t ≡ Ready o a → (x : P) × ((y : B) × (t ≡ Ready x y))
  second_ready Free o a e = never (ap is_free e)
  second_ready (Uncounted u) o a e = never (ap is_waiting e)
  second_ready (Counted u b) o a e = never (ap is_waiting e)
  second_ready (Ready u b) o a e = (u, (b, refl))

-- what a touch does, at stations equal to those
pub touched_as : {S O A I : Type 0} {plain : Machine S O A I} {was is : S} {s s' : Station O A} {o : Outcome} {a : Option A} →
    (t t' : Station O A) → t ≡ s → t' ≡ s' → Touched plain was is s s' o a → Touched plain was is t t' o a
touched_as {plain = plain} {was = was} {is = is} {s = s} {o = o} {a = a} t t' e e' d =
    subst (λ x. Touched plain was is x t' o a) (sym e) (subst (λ x. Touched plain was is s x o a) (sym e') d)

-- A touch of one side does to the pair what it does to that side.
module _ {S T O P A B I J : Type 0} (plain : Machine S O A I) (plain' : Machine T P B J) where
  pub first_touched : (kept : T) {was is : S} {s s' : Station O A} {o : Outcome} {a : Option A} → Touched plain was is s s' o a →
      Touched (pair plain plain') (was, kept) (is, kept) (first s) (first s') o (option_map First a)
  first_touched kept (goes_uncounted e) = goes_uncounted (ap (λ x. (x, kept)) e)
  first_touched kept (goes_counted e) = goes_counted (ap (λ x. (x, kept)) e)
  first_touched kept (counts e) = counts (ap (λ r. ((r.0, kept), First r.1)) e)
  first_touched kept (counts_ready e) = counts_ready (ap (λ r. ((r.0, kept), First r.1)) e)
  first_touched kept (readies e) = readies (ap (λ x. (x, kept)) e)

  pub second_touched : (kept : S) {was is : T} {t t' : Station P B} {o : Outcome} {a : Option B} → Touched plain' was is t t' o a →
      Touched (pair plain plain') (kept, was) (kept, is) (second t) (second t') o (option_map Second a)
  second_touched kept (goes_uncounted e) = goes_uncounted (ap (λ x. (kept, x)) e)
  second_touched kept (goes_counted e) = goes_counted (ap (λ x. (kept, x)) e)
  second_touched kept (counts e) = counts (ap (λ r. ((kept, r.0), Second r.1)) e)
  second_touched kept (counts_ready e) = counts_ready (ap (λ r. ((kept, r.0), Second r.1)) e)
  second_touched kept (readies e) = readies (ap (λ x. (kept, x)) e)
