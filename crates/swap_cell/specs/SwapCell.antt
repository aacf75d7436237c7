-- The cell that holds one number, as a board.
use Rattle.std.specs.Prelude.{◌≡◌, ℕ, ◌≤◌, Bool, true, false, cond, ◌&&◌, List, [], ◌∷◌, length, replicate, Some, None, Ok, Err, Option, Result, nat_le, slice_index_or, slice_set}
use Rattle.keys.specs.declared.refusal.Refusal.{Refusal}
use Rattle.keys.specs.declared.refusal.Refusal.TheVariants.{StationCount}
use Rattle.plain_model.specs.Machine.{Machine}
use Rattle.boards.specs.Board.{Steps, Meaning, is_free, exists}
use Rattle.boards.specs.declared.outcome.Outcome.{Outcome}
use Rattle.boards.specs.declared.outcome.Outcome.TheVariants as told
use Rattle.boards.specs.declared.station.Station.{Station}
use Rattle.boards.specs.declared.station.Station.TheVariants.{Free, Uncounted, Counted, Ready}

-- The plain machine: an operation puts its number in the place of the one that is held, and is answered that.
abbrev pub swap : Machine ℕ ℕ ℕ ℕ
swap = record { empty = 0; apply = λ o n. (o, n); listed = λ n. n ∷ [] }

-- The model: the number held, the number of stations, and what each is doing, at its number.
pub record Cell : Type 0 where
  pub held : ℕ
  pub stations : ℕ
  pub table : List (Station ℕ ℕ)

abbrev pub cell : ℕ → ℕ → List (Station ℕ ℕ) → Cell
cell held stations table = record { held = held; stations = stations; table = table }

-- a cell serves 1 to 16 stations
abbrev pub checked : ℕ → Result (Unit {0}) Refusal
checked stations = cond (nat_le 1 stations && nat_le stations 16) (Ok tt) (Err StationCount)

-- a new cell for so many stations
abbrev pub made : ℕ → Cell
made stations = cell 0 stations (replicate 17 Free)

abbrev pub cell_means : Meaning Cell ℕ ℕ ℕ
cell_means = record {
  stations = λ m. m.stations;
  bound = λ m. 1;
  contents = λ m. m.held;
  station = λ m p. slice_index_or m.table p Free;
  distance = λ m p. 1;
  space = λ m o. true;
}

-- the number held, and what the station p is doing, are now these
abbrev pub put : Cell → ℕ → ℕ → Station ℕ ℕ → Cell
put m held p station = cell held m.stations (slice_set m.table p station)

-- begin, by whether it is taken
abbrev pub begin : Cell → ℕ → ℕ → Bool → Cell × Bool
begin m p o true = (put m m.held p (Uncounted o), true)
begin m p o false = (m, false)

-- touch, by what the station is doing; no touch leaves one counted
abbrev pub touch : Cell → ℕ → Station ℕ ℕ → Cell × (Outcome × Option ℕ)
touch m p Free = (m, (told.Idle, None))
touch m p (Uncounted o) = (put m o p (Ready o m.held), (told.CountedReady, Some m.held))
touch m p (Counted o a) = (put m m.held p (Ready o a), (told.Ready, Some a))
touch m p (Ready o a) = (m, (told.Idle, None))

-- release, by what the station is doing
abbrev pub release : Cell → ℕ → Station ℕ ℕ → Cell
release m p Free = m
release m p (Uncounted o) = m
release m p (Counted o a) = m
release m p (Ready o a) = put m m.held p Free

abbrev pub cell_steps : Steps Cell ℕ ℕ
cell_steps = record {
  begin = λ m p o. begin m p o (exists cell_means m p && is_free (slice_index_or m.table p Free));
  touch = λ m p. touch m p (slice_index_or m.table p Free);
  release = λ m p. release m p (slice_index_or m.table p Free);
}

-- There are 1 to 16 stations, the table has a place for each, and a place of no station is free.
pub record Sound (m : Cell) : Type 0 where
  pub some : 1 ≤ m.stations
  pub few : m.stations ≤ 16
  pub room : length m.table ≡ 17
  pub missing : (p : ℕ) → exists cell_means m p ≡ false → slice_index_or m.table p Free ≡ Free
