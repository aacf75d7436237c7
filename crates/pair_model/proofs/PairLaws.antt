-- The pair of two boards keeps the laws of a board, since both sides do.
use Rattle.std.proofs.Common.{◌≡◌, ℕ, ◌<◌, ◌≤◌, Bool, true, false, cond, ◌&&◌, leb, ◌≢◌, None, Option, sym, refl, ap, ◌∙◌, subst, arith}
use Rattle.std.proofs.lemmas.Bool.{and_parts, and_from, leb-true, le-leb}
use Rattle.std.proofs.Math.Bool.{and_assoc}
use Rattle.std.specs.Option.{option_map}
use Rattle.boards.proofs.Stations.{free_is}
use Rattle.plain_model.specs.Machine.{Machine}
use Rattle.plain_model.specs.Pair.{pair}
use Rattle.plain_model.specs.declared.side.Side.{Side}
use Rattle.plain_model.specs.declared.side.Side.TheVariants.{First, Second}
use Rattle.boards.specs.Board.{Steps, Meaning, is_free, is_waiting, exists}
use Rattle.boards.specs.Laws.{Laws, KeepsOthers, Touched}
use Rattle.boards.specs.declared.outcome.Outcome.{Outcome}
use Rattle.boards.specs.declared.outcome.Outcome.TheVariants as told
use Rattle.boards.specs.declared.station.Station.TheVariants.{Free, Uncounted, Ready}
use Rattle.pair_model.specs.Pair.{first, second, either, space, pair_means, Sound, begin, touch, release, pair_steps}
use Rattle.pair_model.proofs.PairStations.{never, waiting_busy, free_idle, free_not_ready, either_first, either_second, either_alone, first_waiting, alone_waiting, second_waiting, either_free, first_ready, second_ready, touched_as, first_touched, second_touched}
use Rattle.pair_model.proofs.PairSides.{same_others, first_others, first_distances, first_sound, second_others, second_distances, second_sound}

module _ {M N S T O P A B I J : Type 0} {plain : Machine S O A I} {plain' : Machine T P B J} {steps : Steps M O A} {steps' : Steps N P B}
    {means : Meaning M S O A} {means' : Meaning N T P B} {sound : M → Type 0} {sound' : N → Type 0}
    (laws : Laws plain steps means sound) (laws' : Laws plain' steps' means' sound') where
  abbrev both : Meaning (M × N) (S × T) (Side O P) (Side A B)
  both = pair_means means means'

  abbrev Whole : M × N → Type 0
  Whole = Sound means means' sound sound'

  module _ (m : M × N) (p : ℕ) (ok : Whole m) where
    -- a station of the pair is one of both sides
    exists_first : exists both m p ≡ true → exists means m.0 p ≡ true
    exists_first there =
        let b = and_parts (leb 1 p) (leb p (both.stations m)) there in
        let last = leb-true p (both.stations m) b.1 in
        and_from (leb 1 p) (leb p (means.stations m.0)) b.0 (le-leb p (means.stations m.0) (omega arith))

    exists_second : exists both m p ≡ true → exists means' m.1 p ≡ true
    exists_second there =
        let b = and_parts (leb 1 p) (leb p (both.stations m)) there in
        let last = leb-true p (both.stations m) b.1 in
        and_from (leb 1 p) (leb p (means'.stations m.1)) b.0 (le-leb p (means'.stations m.1) (omega arith))

    -- begin, by whether the pair has the station and it is free
    record Begun (o : Side O P) (r : (M × N) × Bool) : Type 0 where
      whole : Whole r.0
      taken : r.1 ≡ (exists both m p && (is_free (both.station m p) && both.space m o))
      refused : r.1 ≡ false → r.0 ≡ m
      waits : r.1 ≡ true → both.station r.0 p ≡ Uncounted o
      others : KeepsOthers both m r.0 p
      contents : both.contents r.0 ≡ both.contents m
      distances : (q : ℕ) → q ≢ p → both.distance r.0 q ≡ both.distance m q

    begun : (o : Side O P) (b : Bool) → (exists both m p && is_free (both.station m p)) ≡ b → Begun o (begin means means' steps steps' m p o b)
    begun o false e = record {
      whole = ok;
      taken = sym (sym (and_assoc (exists both m p) (is_free (both.station m p)) (both.space m o)) ∙ ap (λ x. x && both.space m o) e);
      refused = λ _. refl;
      waits = λ t. never (sym t);
      others = same_others means means' m p;
      contents = refl;
      distances = λ q other. refl;
    }
    begun (First o) true e =
        let b = and_parts (exists both m p) (is_free (both.station m p)) e in
        let free = either_free (means.station m.0 p) (means'.station m.1 p) b.1 in
        let x = (steps.begin m.0 p o).0 in
        let keeps = laws.begin_others m.0 p o ok.first in
        record {
          whole = first_sound means means' m p x keeps ok (laws.begin_sound m.0 p o ok.first) free.1 (λ lacks. never (sym b.0 ∙ lacks));
          taken = laws.begin_taken m.0 p o ok.first ∙
              ap (λ t. t && (is_free (means.station m.0 p) && means.space m.0 o)) (exists_first b.0 ∙ sym b.0) ∙
              ap (λ t. exists both m p && (t && means.space m.0 o)) (ap is_free free.0 ∙ sym b.1);
          refused = λ r. ap (λ y. (y, m.1)) (laws.begin_refused m.0 p o ok.first r);
          waits = λ r. ap (λ s. either s (means'.station m.1 p)) (laws.begin_waits m.0 p o ok.first r);
          others = first_others means means' m p x keeps;
          contents = ap (λ c. (c, means'.contents m.1)) (laws.begin_contents m.0 p o ok.first);
          distances = first_distances means means' m p x keeps (laws.begin_distances m.0 p o ok.first);
        }
    begun (Second o) true e =
        let b = and_parts (exists both m p) (is_free (both.station m p)) e in
        let free = either_free (means.station m.0 p) (means'.station m.1 p) b.1 in
        let y = (steps'.begin m.1 p o).0 in
        let keeps = laws'.begin_others m.1 p o ok.second in
        record {
          whole = second_sound means means' m p y keeps ok (laws'.begin_sound m.1 p o ok.second) free.0 (λ lacks. never (sym b.0 ∙ lacks));
          taken = laws'.begin_taken m.1 p o ok.second ∙
              ap (λ t. t && (is_free (means'.station m.1 p) && means'.space m.1 o)) (exists_second b.0 ∙ sym b.0) ∙
              ap (λ t. exists both m p && (t && means'.space m.1 o)) (ap is_free free.1 ∙ sym b.1);
          refused = λ r. ap (λ z. (m.0, z)) (laws'.begin_refused m.1 p o ok.second r);
          waits = λ r. either_second (means.station m.0 p) _ free.0 ∙ ap second (laws'.begin_waits m.1 p o ok.second r);
          others = second_others means means' m p y keeps;
          contents = ap (λ c. (means.contents m.0, c)) (laws'.begin_contents m.1 p o ok.second);
          distances = second_distances means means' m p y keeps (laws'.begin_distances m.1 p o ok.second);
        }

    -- a touch, by whether the station is free at the first side
    record Done (r : (M × N) × (Outcome × Option (Side A B))) : Type 0 where
      whole : Whole r.0
      idle : is_waiting (both.station m p) ≡ false → r ≡ (m, (told.Idle, None))
      does : is_waiting (both.station m p) ≡ true →
          Touched (pair plain plain') (both.contents m) (both.contents r.0) (both.station m p) (both.station r.0 p) r.1.0 r.1.1
      others : KeepsOthers both m r.0 p
      falls : is_waiting (both.station m p) ≡ true → is_waiting (both.station r.0 p) ≡ true → both.distance r.0 p < both.distance m p

    done : (b : Bool) → is_free (means.station m.0 p) ≡ b → Done (touch means means' steps steps' m p b)
    done false busy =
        let s = means.station m.0 p in
        let t = means'.station m.1 p in
        let x = (steps.touch m.0 p).0 in
        let alone = ok.apart p busy in
        let keeps = laws.touch_others m.0 p ok.first in
        record {
          whole = first_sound means means' m p x keeps ok (laws.touch_sound m.0 p ok.first) alone
              (λ lacks. never (sym (ap is_free (ok.missing_first p lacks)) ∙ busy));
          idle = λ w. ap (λ r. ((r.0, m.1), (r.1.0, option_map First r.1.1)))
              (laws.touch_idle m.0 p ok.first (sym (first_waiting s t busy) ∙ w));
          does = λ w.
              let d = first_touched plain plain' (means'.contents m.1) (laws.touch_does m.0 p ok.first (sym (first_waiting s t busy) ∙ w)) in
              touched_as (either s t) (either (means.station x p) t) (either_first s t busy) (either_alone (means.station x p) t alone) d;
          others = first_others means means' m p x keeps;
          falls = λ w still.
              let waits = sym (alone_waiting (means.station x p) t alone) ∙ still in
              let less = laws.distance_falls m.0 p ok.first (sym (first_waiting s t busy) ∙ w) waits in
              subst (λ b. cond b (means'.distance m.1 p) (means.distance x p) < both.distance m p) (sym (waiting_busy (means.station x p) waits))
              (subst (λ b. means.distance x p < cond b (means'.distance m.1 p) (means.distance m.0 p)) (sym busy) less);
        }
    done true e =
        let s = means.station m.0 p in
        let t = means'.station m.1 p in
        let y = (steps'.touch m.1 p).0 in
        let alone = free_is s e in
        let keeps = laws'.touch_others m.1 p ok.second in
        record {
          whole = second_sound means means' m p y keeps ok (laws'.touch_sound m.1 p ok.second) alone
              (λ lacks.
              let free = ok.missing_second p lacks in
              ap (λ r. means'.station r.0 p) (laws'.touch_idle m.1 p ok.second (free_idle t free)) ∙ free);
          idle = λ w. ap (λ r. ((m.0, r.0), (r.1.0, option_map Second r.1.1)))
              (laws'.touch_idle m.1 p ok.second (sym (second_waiting s t alone) ∙ w));
          does = λ w.
              let d = second_touched plain plain' (means.contents m.0) (laws'.touch_does m.1 p ok.second (sym (second_waiting s t alone) ∙ w)) in
              touched_as (either s t) (either s (means'.station y p)) (either_second s t alone) (either_second s (means'.station y p) alone) d;
          others = second_others means means' m p y keeps;
          falls = λ w still.
              let waits = sym (second_waiting s (means'.station y p) alone) ∙ still in
              let less = laws'.distance_falls m.1 p ok.second (sym (second_waiting s t alone) ∙ w) waits in
              subst (λ b. cond b (means'.distance y p) (means.distance m.0 p) < cond b (means'.distance m.1 p) (means.distance m.0 p)) (sym e) less;
        }

    -- a release, by the same
    record Freed (r : M × N) : Type 0 where
      whole : Whole r
      frees : (o : Side O P) (a : Side A B) → both.station m p ≡ Ready o a → both.station r p ≡ Free
      idle : ((o : Side O P) (a : Side A B) → both.station m p ≡ Ready o a → ⊥) → r ≡ m
      others : KeepsOthers both m r p
      contents : both.contents r ≡ both.contents m
      spaces : (o : Side O P) → both.space r o ≡ both.space m o
      distances : (q : ℕ) → q ≢ p → both.distance r q ≡ both.distance m q

    first_spaces : (o : Side O P) → space means means' (steps.release m.0 p, m.1) o ≡ space means means' m o
    first_spaces (First o) = laws.release_space m.0 p ok.first o
    first_spaces (Second o) = refl

    second_spaces : (o : Side O P) → space means means' (m.0, steps'.release m.1 p) o ≡ space means means' m o
    second_spaces (First o) = refl
    second_spaces (Second o) = laws'.release_space m.1 p ok.second o

    freed : (b : Bool) → is_free (means.station m.0 p) ≡ b → Freed (release means means' steps steps' m p b)
    freed false busy =
        let s = means.station m.0 p in
        let t = means'.station m.1 p in
        let x = steps.release m.0 p in
        let alone = ok.apart p busy in
        let keeps = laws.release_others m.0 p ok.first in
        record {
          whole = first_sound means means' m p x keeps ok (laws.release_sound m.0 p ok.first) alone
              (λ lacks. never (sym (ap is_free (ok.missing_first p lacks)) ∙ busy));
          frees = λ o a ready.
              let r = first_ready s o a (sym (either_first s t busy) ∙ ready) in
              either_second (means.station x p) t (laws.release_frees m.0 p r.0 r.1.0 ok.first r.1.1) ∙ ap second alone;
          idle = λ n. ap (λ z. (z, m.1)) (laws.release_idle m.0 p ok.first (λ o a r. n (First o) (First a) (either_first s t busy ∙ ap first r)));
          others = first_others means means' m p x keeps;
          contents = ap (λ c. (c, means'.contents m.1)) (laws.release_contents m.0 p ok.first);
          spaces = first_spaces;
          distances = first_distances means means' m p x keeps (laws.release_distances m.0 p ok.first);
        }
    freed true e =
        let s = means.station m.0 p in
        let t = means'.station m.1 p in
        let y = steps'.release m.1 p in
        let alone = free_is s e in
        let keeps = laws'.release_others m.1 p ok.second in
        record {
          whole = second_sound means means' m p y keeps ok (laws'.release_sound m.1 p ok.second) alone
              (λ lacks.
              let free = ok.missing_second p lacks in
              ap (λ r. means'.station r p) (laws'.release_idle m.1 p ok.second (free_not_ready t free)) ∙ free);
          frees = λ o a ready.
              let r = second_ready t o a (sym (either_second s t alone) ∙ ready) in
              either_second s (means'.station y p) alone ∙ ap second (laws'.release_frees m.1 p r.0 r.1.0 ok.second r.1.1);
          idle = λ n. ap (λ z. (m.0, z)) (laws'.release_idle m.1 p ok.second (λ o a r. n (Second o) (Second a) (either_second s t alone ∙ ap second r)));
          others = second_others means means' m p y keeps;
          contents = ap (λ c. (means.contents m.0, c)) (laws'.release_contents m.1 p ok.second);
          spaces = second_spaces;
          distances = second_distances means means' m p y keeps (laws'.release_distances m.1 p ok.second);
        }

    -- the distance of a waiting station is that at its side
    least : (b : Bool) → is_free (means.station m.0 p) ≡ b → is_waiting (both.station m p) ≡ true →
        1 ≤ cond b (means'.distance m.1 p) (means.distance m.0 p)
    least false busy w = laws.distance_least m.0 p ok.first (sym (first_waiting _ (means'.station m.1 p) busy) ∙ w)
    least true e w = laws'.distance_least m.1 p ok.second (sym (second_waiting (means.station m.0 p) _ (free_is _ e)) ∙ w)

    most : (b : Bool) → is_free (means.station m.0 p) ≡ b → is_waiting (both.station m p) ≡ true →
        cond b (means'.distance m.1 p) (means.distance m.0 p) ≤ both.bound m
    most false busy w =
        let under = laws.distance_most m.0 p ok.first (sym (first_waiting _ (means'.station m.1 p) busy) ∙ w) in omega arith
    most true e w =
        let under = laws'.distance_most m.1 p ok.second (sym (second_waiting (means.station m.0 p) _ (free_is _ e)) ∙ w) in omega arith

    begins : (o : Side O P) → Begun o ((pair_steps means means' steps steps').begin m p o)
    begins o = begun o _ refl

    does : Done ((pair_steps means means' steps steps').touch m p)
    does = done _ refl

    frees : Freed ((pair_steps means means' steps steps').release m p)
    frees = freed _ refl

  pub pair_laws : Laws (pair plain plain') (pair_steps means means' steps steps') both Whole
  pair_laws = record {
    some_stations = λ m ok.
        let one = laws.some_stations m.0 ok.first in
        let other = laws'.some_stations m.1 ok.second in
        omega arith;
    few_stations = λ m ok. let one = laws.few_stations m.0 ok.first in omega arith;
    missing_free = λ m p ok lacks. either_second _ _ (ok.missing_first p lacks) ∙ ap second (ok.missing_second p lacks);
    begin_taken = λ m p o ok. (begins m p ok o).taken;
    begin_refused = λ m p o ok. (begins m p ok o).refused;
    begin_waits = λ m p o ok. (begins m p ok o).waits;
    begin_others = λ m p o ok. (begins m p ok o).others;
    begin_contents = λ m p o ok. (begins m p ok o).contents;
    begin_distances = λ m p o ok. (begins m p ok o).distances;
    begin_sound = λ m p o ok. (begins m p ok o).whole;
    touch_idle = λ m p ok. (does m p ok).idle;
    touch_does = λ m p ok. (does m p ok).does;
    touch_others = λ m p ok. (does m p ok).others;
    touch_sound = λ m p ok. (does m p ok).whole;
    release_frees = λ m p o a ok. (frees m p ok).frees o a;
    release_idle = λ m p ok. (frees m p ok).idle;
    release_others = λ m p ok. (frees m p ok).others;
    release_contents = λ m p ok. (frees m p ok).contents;
    release_space = λ m p ok. (frees m p ok).spaces;
    release_distances = λ m p ok. (frees m p ok).distances;
    release_sound = λ m p ok. (frees m p ok).whole;
    distance_least = λ m p ok. least m p ok _ refl;
    distance_most = λ m p ok. most m p ok _ refl;
    distance_falls = λ m p ok. (does m p ok).falls;
  }
