-- The cell keeps the laws of a board: what each call does, by what the station is doing, and then law by law.
use Rattle.std.specs.Prelude.{◌≡◌, ℕ, ◌<◌, Bool, true, false, ◌&&◌, length, get_or, Some, None, ◌≢◌, nat_le, slice_index_or, refl}
use Rattle.std.proofs.Common.{sym, ap, ◌∙◌, subst, ⊎_elim, arith, length-set, get_or-set_same, get_or-set_other}
use Rattle.std.proofs.Math.Bool.{and-true}
use Rattle.std.proofs.lemmas.Bool.{and_parts, cases_eq, cases_Bool, leb-true, both_ways}
use Rattle.boards.specs.Board.{is_free, is_waiting, exists}
use Rattle.boards.specs.Laws.{Laws, KeepsOthers, Touched, counts_ready, readies}
use Rattle.boards.specs.declared.outcome.Outcome.TheVariants as told
use Rattle.boards.specs.declared.station.Station.{Station}
use Rattle.boards.specs.declared.station.Station.TheVariants.{Free, Uncounted, Counted, Ready}
use Rattle.swap_cell.specs.SwapCell.{Cell, Sound, swap, cell_means, cell_steps, put, begin, touch, release}

-- true is not false
never : {X : Type 0} → true ≡ false → X
never e = absurd (both_ways true e refl)

-- What is put at a station that exists stands there, and nowhere else.
module _ (m : Cell) (ok : Sound m) (p : ℕ) (there : exists cell_means m p ≡ true) (held : ℕ) (station : Station ℕ ℕ) where
  within : p < length m.table
  within =
      let last = leb-true p m.stations (and_parts (nat_le 1 p) (nat_le p m.stations) there).1 in
      let few = ok.few in
      let room = ok.room in
      omega arith

  put_sound : Sound (put m held p station)
  put_sound = record {
    some = ok.some;
    few = ok.few;
    room = length-set m.table p station ∙ ok.room;
    missing = λ q no-q. ⊎_elim (λ same. never (sym (subst (λ x. exists cell_means m x ≡ true) (sym same) there) ∙ no-q))
        (λ other. get_or-set_other m.table p q station Free other ∙ ok.missing q no-q) (cases_eq q p);
  }

  put_others : KeepsOthers cell_means m (put m held p station) p
  put_others = record { stations = refl; bound = refl; station = λ q other. get_or-set_other m.table p q station Free other }

  put_there : get_or (put m held p station).table p Free ≡ station
  put_there = get_or-set_same m.table p station Free within

same_others : (m : Cell) (p : ℕ) → KeepsOthers cell_means m m p
same_others m p = record { stations = refl; bound = refl; station = λ q other. refl }

module _ (m : Cell) (ok : Sound m) (p : ℕ) where
  -- a station that is not free exists
  busy_exists : (station : Station ℕ ℕ) → slice_index_or m.table p Free ≡ station → is_free station ≡ false → exists cell_means m p ≡ true
  busy_exists station e busy =
      ⊎_elim (λ t. t) (λ f. never (sym (ap is_free (ok.missing p f)) ∙ ap is_free e ∙ busy)) (cases_Bool (exists cell_means m p))

  -- begin, by whether it is taken
  record Begun (o : ℕ) (taken : Bool) : Type 0 where
    sound : Sound (begin m p o taken).0
    told : (begin m p o taken).1 ≡ taken
    refused : (begin m p o taken).1 ≡ false → (begin m p o taken).0 ≡ m
    waits : (begin m p o taken).1 ≡ true → slice_index_or (begin m p o taken).0.table p Free ≡ Uncounted o
    others : KeepsOthers cell_means m (begin m p o taken).0 p
    contents : (begin m p o taken).0.held ≡ m.held

  begun : (o : ℕ) (taken : Bool) → (taken ≡ true → exists cell_means m p ≡ true) → Begun o taken
  begun o true there =
      let x = there refl in
      record {
        sound = put_sound m ok p x m.held (Uncounted o);
        told = refl;
        refused = never;
        waits = λ _. put_there m ok p x m.held (Uncounted o);
        others = put_others m ok p x m.held (Uncounted o);
        contents = refl;
      }
  begun o false there =
      record { sound = ok; told = refl; refused = λ _. refl; waits = λ e. never (sym e); others = same_others m p; contents = refl }

  -- a touch, by what the station is doing
  record Done (station : Station ℕ ℕ) : Type 0 where
    sound : Sound (touch m p station).0
    idle : is_waiting station ≡ false → touch m p station ≡ (m, (told.Idle, None))
    does : is_waiting station ≡ true →
        Touched swap m.held (touch m p station).0.held station (slice_index_or (touch m p station).0.table p Free) (touch m p station).1.0 (touch m p station).1.1
    others : KeepsOthers cell_means m (touch m p station).0 p
    -- no touch leaves a station that waits
    ends : is_waiting station ≡ true → is_waiting (slice_index_or (touch m p station).0.table p Free) ≡ false

  done : (station : Station ℕ ℕ) → slice_index_or m.table p Free ≡ station → Done station
  done Free e =
      record { sound = ok; idle = λ _. refl; does = λ w. never (sym w); others = same_others m p; ends = λ w. never (sym w) }
  done (Uncounted o) e =
      let x = busy_exists _ e refl in
      let there = put_there m ok p x o (Ready o m.held) in
      record {
        sound = put_sound m ok p x o (Ready o m.held);
        idle = never;
        does = λ _. subst (λ s. Touched swap m.held o (Uncounted o) s told.CountedReady (Some m.held)) (sym there) (counts_ready refl);
        others = put_others m ok p x o (Ready o m.held);
        ends = λ _. ap is_waiting there;
      }
  done (Counted o a) e =
      let x = busy_exists _ e refl in
      let there = put_there m ok p x m.held (Ready o a) in
      record {
        sound = put_sound m ok p x m.held (Ready o a);
        idle = never;
        does = λ _. subst (λ s. Touched swap m.held m.held (Counted o a) s told.Ready (Some a)) (sym there) (readies refl);
        others = put_others m ok p x m.held (Ready o a);
        ends = λ _. ap is_waiting there;
      }
  done (Ready o a) e =
      record { sound = ok; idle = λ _. refl; does = λ w. never (sym w); others = same_others m p; ends = λ w. never (sym w) }

  -- a release, by what the station is doing
  record Freed (station : Station ℕ ℕ) : Type 0 where
    sound : Sound (release m p station)
    frees : (o a : ℕ) → station ≡ Ready o a → slice_index_or (release m p station).table p Free ≡ Free
    idle : ((o a : ℕ) → station ≢ Ready o a) → release m p station ≡ m
    others : KeepsOthers cell_means m (release m p station) p
    contents : (release m p station).held ≡ m.held

  freed : (station : Station ℕ ℕ) → slice_index_or m.table p Free ≡ station → Freed station
  freed Free e = record { sound = ok; frees = λ o a _. e; idle = λ _. refl; others = same_others m p; contents = refl }
  freed (Uncounted u) e =
      record { sound = ok; frees = λ o a r. never (ap is_waiting r); idle = λ _. refl; others = same_others m p; contents = refl }
  freed (Counted u b) e =
      record { sound = ok; frees = λ o a r. never (ap is_waiting r); idle = λ _. refl; others = same_others m p; contents = refl }
  freed (Ready u b) e =
      let x = busy_exists _ e refl in
      record {
        sound = put_sound m ok p x m.held Free;
        frees = λ o a _. put_there m ok p x m.held Free;
        idle = λ n. absurd (n u b refl);
        others = put_others m ok p x m.held Free;
        contents = refl;
      }

abbrev taken : Cell → ℕ → Bool
taken m p = exists cell_means m p && is_free (slice_index_or m.table p Free)

taken_exists : (m : Cell) (p : ℕ) → taken m p ≡ true → exists cell_means m p ≡ true
taken_exists m p e = (and_parts (exists cell_means m p) (is_free (slice_index_or m.table p Free)) e).0

begins : (m : Cell) (ok : Sound m) (p o : ℕ) → Begun m ok p o (taken m p)
begins m ok p o = begun m ok p o (taken m p) (taken_exists m p)

pub cell_laws : Laws swap cell_steps cell_means Sound
cell_laws = record {
  some_stations = λ m ok. ok.some;
  few_stations = λ m ok. ok.few;
  missing_free = λ m p ok. ok.missing p;
  begin_taken = λ m p o ok. (begins m ok p o).told ∙ ap (λ x. exists cell_means m p && x) (sym (and-true (is_free (slice_index_or m.table p Free))));
  begin_refused = λ m p o ok. (begins m ok p o).refused;
  begin_waits = λ m p o ok. (begins m ok p o).waits;
  begin_others = λ m p o ok. (begins m ok p o).others;
  begin_contents = λ m p o ok. (begins m ok p o).contents;
  begin_distances = λ m p o ok q other. refl;
  begin_sound = λ m p o ok. (begins m ok p o).sound;
  touch_idle = λ m p ok. (done m ok p _ refl).idle;
  touch_does = λ m p ok. (done m ok p _ refl).does;
  touch_others = λ m p ok. (done m ok p _ refl).others;
  touch_sound = λ m p ok. (done m ok p _ refl).sound;
  release_frees = λ m p o a ok. (freed m ok p _ refl).frees o a;
  release_idle = λ m p ok. (freed m ok p _ refl).idle;
  release_others = λ m p ok. (freed m ok p _ refl).others;
  release_contents = λ m p ok. (freed m ok p _ refl).contents;
  release_space = λ m p ok o. refl;
  release_distances = λ m p ok q other. refl;
  release_sound = λ m p ok. (freed m ok p _ refl).sound;
  distance_least = λ m p ok w. omega arith;
  distance_most = λ m p ok w. omega arith;
  distance_falls = λ m p ok w still. never (sym still ∙ (done m ok p _ refl).ends w);
}
