-- The laws of release, and all laws of a board for the nest.
use Rattle.std.proofs.Common.{◌≡◌, ℕ, Bool, ◌≢◌, refl, ap, arith}
use Rattle.keys.specs.Order.{Total}
use Rattle.plain_model.specs.Nest.{nest}
use Rattle.plain_model.specs.declared.nest_op.NestOp.{NestOp}
use Rattle.plain_model.specs.declared.nest_op.NestOp.TheVariants.{Add, Drop, Find}
use Rattle.plain_model.specs.declared.nest_op.NestAnswer.{NestAnswer}
use Rattle.boards.specs.Laws.{KeepsOthers}
use Rattle.boards.specs.declared.station.Station.TheVariants as station
use Rattle.nest_model.specs.declared.work.Work.{Work}
use Rattle.nest_model.specs.declared.work.Work.TheVariants.{Free, Waiting, Ready}
use Rattle.nest_model.specs.Model.{NestModel, work_at, with, station_of, space, may_begin, leave}
use Rattle.nest_model.specs.Meaning.{contents, work_distance, means}
use Rattle.nest_model.specs.Sound.{Sound}
use Rattle.nest_model.proofs.Places.{here_work, put_same, put_other, put_length}
use Rattle.boards.specs.Laws.{Laws}
use Rattle.nest_model.specs.Model.{steps}
use Rattle.nest_model.proofs.Places.{work_missing}
use Rattle.nest_model.proofs.Stations.{stay, sound_put, none_own, back_apart}
use Rattle.nest_model.proofs.Touches.{act_sound, act_does, act_falls, act_least, act_most, act_idle, act_others}
use Rattle.nest_model.proofs.Begins.{put_distance, begin_others, begin_waits, begin_sound, begin_distances, begin_contents}

module _ {K : Type 0} (before : K → K → Bool) where
  release_others : (m : NestModel K) (p : ℕ) (w : Work K) → KeepsOthers (means before) m (leave m p w) p
  release_others m p Free = record { stations = refl; bound = refl; station = λ q d. refl }
  release_others m p (Waiting w) = record { stations = refl; bound = refl; station = λ q d. refl }
  release_others m p (Ready o a r) = record { stations = put_length m.works p Free; bound = refl; station = λ q d. ap station_of (put_other m.works p Free q d) }

  release_distances : (m : NestModel K) (p : ℕ) (w : Work K) (q : ℕ) → q ≢ p →
      work_distance before (leave m p w) (work_at (leave m p w).works q) ≡ work_distance before m (work_at m.works q)
  release_distances m p Free q d = refl
  release_distances m p (Waiting w) q d = refl
  release_distances m p (Ready o a r) q d = put_distance before m p Free q d

module _ {K : Type 0} where
  release_frees : (m : NestModel K) (p : ℕ) (o : NestOp K) (a : NestAnswer) (w : Work K) → work_at m.works p ≡ w → station_of w ≡ station.Ready o a →
      station_of (work_at (leave m p w).works p) ≡ station.Free
  release_frees m p o a Free e q = let z : ◌≡◌ {A = ℕ} 0 1 = cc in absurd (omega arith)
  release_frees m p o a (Waiting w) e q = let z : ◌≡◌ {A = ℕ} 0 1 = cc in absurd (omega arith)
  release_frees m p o a (Ready o' a' r) e q =
      ap station_of (put_same m.works p Free (here_work m.works p (Ready o' a' r) e (λ t. let z : ◌≡◌ {A = ℕ} 0 1 = cc in omega arith)))

  release_idle : (m : NestModel K) (p : ℕ) (w : Work K) → ((o : NestOp K) (a : NestAnswer) → station_of w ≡ station.Ready o a → ⊥) → leave m p w ≡ m
  release_idle m p Free n = refl
  release_idle m p (Waiting w) n = refl
  release_idle m p (Ready o a r) n = absurd (n o a refl)

  release_contents : (m : NestModel K) (p : ℕ) (w : Work K) → contents (leave m p w) ≡ contents m
  release_contents m p Free = refl
  release_contents m p (Waiting w) = refl
  release_contents m p (Ready o a r) = refl

  release_space : (m : NestModel K) (p : ℕ) (w : Work K) (o : NestOp K) → space (leave m p w) o ≡ space m o
  release_space m p w (Drop k) = refl
  release_space m p w (Find k) = refl
  release_space m p Free (Add k) = refl
  release_space m p (Waiting w) (Add k) = refl
  release_space m p (Ready o a r) (Add k) = refl

module _ {K : Type 0} {before : K → K → Bool} (total : Total before) where
  release_sound : (m : NestModel K) (s : Sound before m) (p : ℕ) (w : Work K) → work_at m.works p ≡ w → Sound before (leave m p w)
  release_sound m s p Free e = s
  release_sound m s p (Waiting w) e = s
  release_sound m s p (Ready o a r) e =
      sound_put total m s p (here_work m.works p (Ready o a r) e (λ q. let z : ◌≡◌ {A = ℕ} 0 1 = cc in omega arith)) 1 (λ q d n. back_apart total m s q n)
      (with m m.nodes p Free) Free refl s.enough s.tabled _ refl (stay total m s 1) (λ n q. none_own total n q) tt

  pub laws : Laws (nest before) (steps before) (means before) (Sound before)
  laws = record {
    some_stations = λ m s. s.some_stations;
    few_stations = λ m s. s.few_stations;
    missing_free = λ m p s e. ap station_of (work_missing m.works p e);
    begin_taken = λ m p o s. refl;
    begin_refused = λ m p o s e. rw e;
    begin_waits = λ m p o s e. begin_waits m p o (may_begin m p o) refl e;
    begin_others = λ m p o s. begin_others before m p o (may_begin m p o);
    begin_contents = λ m p o s. begin_contents total m s p o (may_begin m p o);
    begin_distances = λ m p o s q d. begin_distances total m s p o q d (may_begin m p o);
    begin_sound = λ m p o s. begin_sound total m s p o (may_begin m p o) refl;
    touch_idle = λ m p s t. act_idle before m p (work_at m.works p) t;
    touch_does = λ m p s t. act_does total m s p (work_at m.works p) refl t;
    touch_others = λ m p s. act_others before m p (work_at m.works p);
    touch_sound = λ m p s. act_sound total m s p (work_at m.works p) refl;
    release_frees = λ m p o a s e. release_frees m p o a (work_at m.works p) refl e;
    release_idle = λ m p s n. release_idle m p (work_at m.works p) n;
    release_others = λ m p s. release_others before m p (work_at m.works p);
    release_contents = λ m p s. release_contents m p (work_at m.works p);
    release_space = λ m p s o. release_space m p (work_at m.works p) o;
    release_distances = λ m p s q d. release_distances before m p (work_at m.works p) q d;
    release_sound = λ m p s. release_sound m s p (work_at m.works p) refl;
    distance_least = λ m p s t. act_least total m s (work_at m.works p) t;
    distance_most = λ m p s t. act_most total m s (work_at m.works p) (s.each p) t;
    distance_falls = λ m p s t u. act_falls total m s p (work_at m.works p) refl t u;
  }
