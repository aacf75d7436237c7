-- Two sound boards make a sound pair while every station of either is free, and two fresh ones a fresh pair.
use Rattle.std.proofs.Common.{◌≡◌, ℕ, Bool, true, false, cond, ◌&&◌, Ok, Err, Result, refl, ap, ◌∙◌, arith}
use Rattle.keys.specs.declared.refusal.Refusal.{Refusal}
use Rattle.keys.specs.declared.refusal.Refusal.TheVariants.{NotFree}
use Rattle.plain_model.specs.Machine.{Machine}
use Rattle.plain_model.specs.declared.side.Side.{Side}
use Rattle.plain_model.specs.declared.side.Side.TheVariants.{First, Second}
use Rattle.boards.specs.Board.{Steps, Meaning, Fresh, all_free}
use Rattle.boards.specs.Laws.{Laws}
use Rattle.boards.specs.declared.station.Station.TheVariants.{Free}
use Rattle.pair_model.specs.Pair.{second, space, pair_means, Sound, checked}
use Rattle.boards.proofs.Stations.{each_free}
use Rattle.pair_model.proofs.PairStations.{either_second}

-- what the check lets through
checked_free : (x y : Bool) → ◌≡◌ {A = Result (Unit {0}) Refusal} (cond (x && y) (Ok tt) (Err NotFree)) (Ok tt) → (x ≡ true) × (y ≡ true)
checked_free true true e = (refl, refl)
checked_free true false e = let z : ◌≡◌ {A = ℕ} 0 1 = cc in absurd (omega arith)
checked_free false y e = let z : ◌≡◌ {A = ℕ} 0 1 = cc in absurd (omega arith)

module _ {M N S T O P A B : Type 0} {means : Meaning M S O A} {means' : Meaning N T P B} where
  -- all stations free, at both sides
  pub free_sound : {sound : M → Type 0} {sound' : N → Type 0} (m : M × N) → sound m.0 → sound' m.1 → ((p : ℕ) → means.station m.0 p ≡ Free) → ((p : ℕ) → means'.station m.1 p ≡ Free) →
      Sound means means' sound sound' m
  free_sound m ok ok' free free' = record {
    first = ok;
    second = ok';
    apart = λ p _. free' p;
    missing_first = λ p _. free p;
    missing_second = λ p _. free' p;
  }

  pub fresh_pair : (m : M × N) {empty : S} {empty' : T} → Fresh means empty m.0 → Fresh means' empty' m.1 → Fresh (pair_means means means') (empty, empty') m
  fresh_pair m {empty} {empty'} new new' = record {
    contents = ap (λ c. (c, means'.contents m.1)) new.contents ∙ ap (λ c. (empty, c)) new'.contents;
    station = λ p. either_second _ _ (new.station p) ∙ ap second (new'.station p);
    space = spaces;
  }
    where
      spaces : (o : Side O P) → space means means' m o ≡ true
      spaces (First o) = new.space o
      spaces (Second o) = new'.space o

  pub fresh_sound : {sound : M → Type 0} {sound' : N → Type 0} (m : M × N) {empty : S} {empty' : T} → sound m.0 → sound' m.1 → Fresh means empty m.0 → Fresh means' empty' m.1 →
      Sound means means' sound sound' m
  fresh_sound m ok ok' new new' = free_sound m ok ok' new.station new'.station

pub checked_sound : {M N S T O P A B I J : Type 0} {plain : Machine S O A I} {plain' : Machine T P B J} {steps : Steps M O A} {steps' : Steps N P B}
    {means : Meaning M S O A} {means' : Meaning N T P B} {sound : M → Type 0} {sound' : N → Type 0} →
    Laws plain steps means sound → Laws plain' steps' means' sound' →
    (m : M × N) → sound m.0 → sound' m.1 → checked means means' m ≡ Ok tt → Sound means means' sound sound' m
checked_sound {means = means} {means' = means'} laws laws' m ok ok' e =
    let b = checked_free (all_free means m.0) (all_free means' m.1) e in
    free_sound m ok ok' (each_free laws m.0 ok b.0) (each_free laws' m.1 ok' b.1)
