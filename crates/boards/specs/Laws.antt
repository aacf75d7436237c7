-- The laws of a board, which hold of every sound model.
use Rattle.std.specs.Prelude.{◌≡◌, ℕ, ◌<◌, ◌≤◌, true, false, ◌&&◌, ◌≢◌, Some, None, Option}
use Rattle.plain_model.specs.Machine.{Machine}
use Rattle.boards.specs.declared.outcome.Outcome.{Outcome}
use Rattle.boards.specs.declared.outcome.Outcome.TheVariants as told
use Rattle.boards.specs.declared.station.Station.{Station}
use Rattle.boards.specs.declared.station.Station.TheVariants.{Free, Uncounted, Counted, Ready}
use Rattle.boards.specs.Board.{Steps, Meaning, is_free, is_waiting, exists}

-- What a touch of a waiting station does, by the outcome and the answer that it tells: the contents and the station before and after.
pub data Touched {Plain Op Answer Item : Type 0} (plain : Machine Plain Op Answer Item) (was now : Plain) :
    Station Op Answer → Station Op Answer → Outcome → Option Answer → Type 0 where
  -- going: contents, state, operation and answer stay
  goes_uncounted : {o : Op} → now ≡ was → Touched plain was now (Uncounted o) (Uncounted o) told.Going None
  goes_counted : {o : Op} {a : Answer} → now ≡ was → Touched plain was now (Counted o a) (Counted o a) told.Going None
  -- counted: an uncounted operation is applied once to the contents, its answer is fixed, and the station waits counted
  counts : {o : Op} {a : Answer} → plain.apply o was ≡ (now, a) →
      Touched plain was now (Uncounted o) (Counted o a) told.Counted (Some a)
  -- counted ready: the same, but the station is ready
  counts_ready : {o : Op} {a : Answer} → plain.apply o was ≡ (now, a) →
      Touched plain was now (Uncounted o) (Ready o a) told.CountedReady (Some a)
  -- ready: a counted operation becomes ready, and the contents stay
  readies : {o : Op} {a : Answer} → now ≡ was → Touched plain was now (Counted o a) (Ready o a) told.Ready (Some a)

module _ {Model Plain Op Answer : Type 0} (means : Meaning Model Plain Op Answer) where
  -- the number of stations, the bound, and the state, operation and answer of every station but p are the same in two models
  pub record KeepsOthers (m m' : Model) (p : ℕ) : Type 0 where
    pub stations : means.stations m' ≡ means.stations m
    pub bound : means.bound m' ≡ means.bound m
    pub station : (q : ℕ) → q ≢ p → means.station m' q ≡ means.station m q

pub record Laws {Model Plain Op Answer Item : Type 0} (plain : Machine Plain Op Answer Item) (steps : Steps Model Op Answer)
    (means : Meaning Model Plain Op Answer) (sound : Model → Type 0) : Type 0 where
  -- there are 1 to 16 stations, and any other is free
  pub some_stations : (m : Model) → sound m → 1 ≤ means.stations m
  pub few_stations : (m : Model) → sound m → means.stations m ≤ 16
  pub missing_free : (m : Model) (p : ℕ) → sound m → exists means m p ≡ false → means.station m p ≡ Free
  -- begin is taken exactly when the station exists, is free, and there is space for the operation
  pub begin_taken : (m : Model) (p : ℕ) (o : Op) → sound m →
      (steps.begin m p o).1 ≡ (exists means m p && (is_free (means.station m p) && means.space m o))
  -- one that is not taken changes nothing
  pub begin_refused : (m : Model) (p : ℕ) (o : Op) → sound m → (steps.begin m p o).1 ≡ false → (steps.begin m p o).0 ≡ m
  -- after one that is taken the station waits uncounted with that operation
  pub begin_waits : (m : Model) (p : ℕ) (o : Op) → sound m → (steps.begin m p o).1 ≡ true →
      means.station (steps.begin m p o).0 p ≡ Uncounted o
  -- begin changes nothing else in the meaning but space and that station's distance
  pub begin_others : (m : Model) (p : ℕ) (o : Op) → sound m → KeepsOthers means m (steps.begin m p o).0 p
  pub begin_contents : (m : Model) (p : ℕ) (o : Op) → sound m → means.contents (steps.begin m p o).0 ≡ means.contents m
  pub begin_distances : (m : Model) (p : ℕ) (o : Op) → sound m → (q : ℕ) → q ≢ p →
      means.distance (steps.begin m p o).0 q ≡ means.distance m q
  -- begin keeps a sound model sound
  pub begin_sound : (m : Model) (p : ℕ) (o : Op) → sound m → sound (steps.begin m p o).0
  -- a touch of a free, ready or missing station says idle, without an answer, and changes nothing at all
  pub touch_idle : (m : Model) (p : ℕ) → sound m → is_waiting (means.station m p) ≡ false → steps.touch m p ≡ (m, (told.Idle, None))
  -- a touch of a waiting station does what its outcome says; it never says idle
  pub touch_does : (m : Model) (p : ℕ) → sound m → is_waiting (means.station m p) ≡ true →
      Touched plain (means.contents m) (means.contents (steps.touch m p).0)
      (means.station m p) (means.station (steps.touch m p).0 p)
      (steps.touch m p).1.0 (steps.touch m p).1.1
  -- no touch changes another station's state, operation or answer
  pub touch_others : (m : Model) (p : ℕ) → sound m → KeepsOthers means m (steps.touch m p).0 p
  -- a touch keeps a sound model sound
  pub touch_sound : (m : Model) (p : ℕ) → sound m → sound (steps.touch m p).0
  -- release frees a ready station
  pub release_frees : (m : Model) (p : ℕ) (o : Op) (a : Answer) → sound m → means.station m p ≡ Ready o a →
      means.station (steps.release m p) p ≡ Free
  -- it does nothing at any other
  pub release_idle : (m : Model) (p : ℕ) → sound m → ((o : Op) (a : Answer) → means.station m p ≢ Ready o a) → steps.release m p ≡ m
  -- and it changes nothing else in the meaning
  pub release_others : (m : Model) (p : ℕ) → sound m → KeepsOthers means m (steps.release m p) p
  pub release_contents : (m : Model) (p : ℕ) → sound m → means.contents (steps.release m p) ≡ means.contents m
  pub release_space : (m : Model) (p : ℕ) → sound m → (o : Op) → means.space (steps.release m p) o ≡ means.space m o
  pub release_distances : (m : Model) (p : ℕ) → sound m → (q : ℕ) → q ≢ p →
      means.distance (steps.release m p) q ≡ means.distance m q
  -- release keeps a sound model sound
  pub release_sound : (m : Model) (p : ℕ) → sound m → sound (steps.release m p)
  -- the distance of a waiting station is from 1 to the bound
  pub distance_least : (m : Model) (p : ℕ) → sound m → is_waiting (means.station m p) ≡ true → 1 ≤ means.distance m p
  pub distance_most : (m : Model) (p : ℕ) → sound m → is_waiting (means.station m p) ≡ true → means.distance m p ≤ means.bound m
  -- its own touch makes it ready or lowers the distance
  pub distance_falls : (m : Model) (p : ℕ) → sound m → is_waiting (means.station m p) ≡ true →
      is_waiting (means.station (steps.touch m p).0 p) ≡ true → means.distance (steps.touch m p).0 p < means.distance m p
