-- A floor, and what each of its calls does: when the call is sent back, and what it makes of the floor and the ledger when it is taken.
use Rattle.std.specs.Prelude.{◌≡◌, ℕ, suc, ◌+◌, ◌≤◌, Bool, true, false, cond, not, ◌&&◌, List, length, take, replicate, Some, None, Ok, Err, Option, Result, ◌==◌, nat_le, nat_lt, slice_index, slice_set}
use Rattle.keys.specs.declared.refusal.Refusal.{Refusal}
use Rattle.keys.specs.declared.refusal.Refusal.TheVariants.{LedgerLimit, ShortTable, NoSuchStation, NotFree, StillFree, AlreadyReady, StillWaiting, LedgerFull, NoSpace, StationsBusy, ShortList}
use Rattle.plain_model.specs.Machine.{Machine}
use Rattle.boards.specs.Board.{Steps, Meaning, is_free, is_waiting, exists, all_free, uncounted, over}
use Rattle.boards.specs.declared.outcome.Outcome.{Outcome}
use Rattle.boards.specs.declared.outcome.Outcome.TheVariants as told
use Rattle.boards.specs.declared.station.Station.{Station}
use Rattle.boards.specs.declared.station.Station.TheVariants.{Free, Uncounted, Counted, Ready}
use Rattle.floor_model.specs.declared.line.Line.{Line}

pub record Floor (Model : Type 0) : Type 0 where
  pub board : Model
  -- how many lines the ledger has at most
  pub limit : ℕ
  -- how many lines are written
  pub written : ℕ
  -- how many starts of each station were taken, at the place of its number; place 0 is no station's
  pub turns : List ℕ

-- a floor just opened over a board
abbrev pub opened : {Model : Type 0} → Model → ℕ → Floor Model
opened m limit = record { board = m; limit = limit; written = 0; turns = replicate 17 0 }

-- the number of a station's taken starts, which is the number of the last one
abbrev pub turn : {Model : Type 0} → Floor Model → ℕ → ℕ
turn f p = slice_index f.turns p

abbrev pub with_board : {Model : Type 0} → Floor Model → Model → Floor Model
with_board f m = record { board = m; limit = f.limit; written = f.written; turns = f.turns }

abbrev pub line : {Op Answer : Type 0} → ℕ → ℕ → Op → Answer → Line Op Answer
line p t o a = record { station = p; turn = t; operation = o; answer = a }

abbrev pub is_ready : {Op Answer : Type 0} → Station Op Answer → Bool
is_ready Free = false
is_ready (Uncounted o) = false
is_ready (Counted o a) = false
is_ready (Ready o a) = true

-- a touch told counted or counted ready
abbrev pub tells_counted : Outcome → Bool
tells_counted told.Idle = false
tells_counted told.Going = false
tells_counted told.Counted = true
tells_counted told.CountedReady = true
tells_counted told.Ready = false

-- a touch told ready or counted ready
abbrev pub tells_ready : Outcome → Bool
tells_ready told.Idle = false
tells_ready told.Going = false
tells_ready told.Counted = false
tells_ready told.CountedReady = true
tells_ready told.Ready = true

-- a reason that stands comes before the reasons after it
abbrev pub refuse_if : Bool → Refusal → Option Refusal → Option Refusal
refuse_if b c rest = cond b (Some c) rest

-- A call that is taken makes something of what it was given and tells something; one that is sent back leaves all as it was.
abbrev pub taken_unless : {X T : Type 0} → Option Refusal → X → X × T → X × Result T Refusal
taken_unless None was taken = (taken.0, Ok taken.1)
taken_unless (Some c) was taken = (was, Err c)

-- what a check tells, which moves nothing
abbrev pub checked : Option Refusal → Result (Unit {0}) Refusal
checked None = Ok tt
checked (Some c) = Err c

module _ {Model Plain Op Answer : Type 0} (means : Meaning Model Plain Op Answer) where
  abbrev pub station : Floor Model → ℕ → Station Op Answer
  station f p = means.station f.board p

  -- `lines` is the length of the ledger that goes along, here and at a touch
  abbrev pub open_refusal : Model → (limit lines : ℕ) → Option Refusal
  open_refusal m limit lines =
      refuse_if (not (nat_le 1 limit && nat_le limit 1024)) LedgerLimit
      (refuse_if (nat_lt lines limit) ShortTable
      (refuse_if (not (all_free means m)) NotFree None))

  abbrev pub start_refusal : Floor Model → ℕ → Op → Option Refusal
  start_refusal f p o =
      refuse_if (not (exists means f.board p)) NoSuchStation
      (refuse_if (not (is_free (station f p))) NotFree
      (refuse_if (f.written + uncounted means f.board == f.limit) LedgerFull
      (refuse_if (not (means.space f.board o)) NoSpace None)))

  abbrev pub touch_refusal : Floor Model → ℕ → (lines : ℕ) → Option Refusal
  touch_refusal f p lines =
      refuse_if (nat_lt lines f.limit) ShortTable
      (refuse_if (not (exists means f.board p)) NoSuchStation
      (refuse_if (is_free (station f p)) StillFree
      (refuse_if (not (is_waiting (station f p))) AlreadyReady None)))

  abbrev pub close_refusal : Floor Model → Option Refusal
  close_refusal f = refuse_if (not (all_free means f.board)) StationsBusy None

  -- What opening over a sound board with free stations gives and every call keeps: the ledger has a line for every uncounted
  -- station, and no turn is above the number of lines that are written or promised.
  pub record Fits (sound : Model → Type 0) (f : Floor Model) : Type 0 where
    pub sound_board : sound f.board
    pub fill : f.written + uncounted means f.board ≤ f.limit
    pub turns_room : length f.turns ≡ 17
    pub low_turns : (p : ℕ) → turn f p ≤ f.written + uncounted means f.board

  -- a floor that fits is left fitting
  abbrev pub StaysFit : (Model → Type 0) → (was left : Floor Model) → Type 0
  StaysFit sound was left = Fits sound was → Fits sound left

-- What a touch enters into the ledger: the operation of a station that waited uncounted, with the answer told, when the touch told that it counted.
abbrev pub entry : {Op Answer : Type 0} → Station Op Answer → Outcome → Option Answer → Option (Op × Answer)
entry Free t a = None
entry (Uncounted o) t None = None
entry (Uncounted o) t (Some a) = cond (tells_counted t) (Some (o, a)) None
entry (Counted o b) t a = None
entry (Ready o b) t a = None

-- an entry of station p is written on the next line, and every other line stays
abbrev pub enter : {Model Op Answer : Type 0} → Floor Model → ℕ → List (Line Op Answer) → Option (Op × Answer) → Floor Model × List (Line Op Answer)
enter f p ledger None = (f, ledger)
enter f p ledger (Some e) =
    (record { board = f.board; limit = f.limit; written = suc f.written; turns = f.turns }, slice_set ledger f.written (line p (turn f p) e.0 e.1))

-- the lines of a ledger that are written
abbrev pub written_lines : {Model Op Answer : Type 0} → Floor Model → List (Line Op Answer) → List (Line Op Answer)
written_lines f ledger = take f.written ledger

module _ {Model Plain Op Answer : Type 0} (steps : Steps Model Op Answer) (means : Meaning Model Plain Op Answer) where
  -- one begin of the board, and the station's turn goes up by one
  abbrev pub start_taken : Floor Model → ℕ → Op → Floor Model
  start_taken f p o =
      record { board = (steps.begin f.board p o).0; limit = f.limit; written = f.written; turns = slice_set f.turns p (suc (turn f p)) }

  abbrev pub start : Floor Model → ℕ → Op → Floor Model × Result (Unit {0}) Refusal
  start f p o = taken_unless (start_refusal means f p o) f (start_taken f p o, tt)

  -- one touch of the board, and what it counted is entered into the ledger
  abbrev pub touch_taken : Floor Model → ℕ → List (Line Op Answer) → Floor Model × List (Line Op Answer)
  touch_taken f p ledger =
      let r = steps.touch f.board p in
      enter (with_board f r.0) p ledger (entry (station means f p) r.1.0 r.1.1)

  -- it hands on what the board tells
  abbrev pub touch : Floor Model → ℕ → List (Line Op Answer) → (Floor Model × List (Line Op Answer)) × Result (Outcome × Option Answer) Refusal
  touch f p ledger =
      taken_unless (touch_refusal means f p (length ledger)) (f, ledger) (touch_taken f p ledger, (steps.touch f.board p).1)

  -- one release of the board, which gives the answer that the board has for the station
  abbrev pub collect_at : Floor Model → ℕ → Station Op Answer → Floor Model × Result Answer Refusal
  collect_at f p Free = (f, Err StillFree)
  collect_at f p (Uncounted o) = (f, Err StillWaiting)
  collect_at f p (Counted o a) = (f, Err StillWaiting)
  collect_at f p (Ready o a) = (with_board f (steps.release f.board p), Ok a)

  abbrev pub collect : Floor Model → ℕ → Floor Model × Result Answer Refusal
  collect f p = cond (exists means f.board p) (collect_at f p (station means f p)) (f, Err NoSuchStation)

module _ {Model Plain Op Answer Item : Type 0} (plain : Machine Plain Op Answer Item) (means : Meaning Model Plain Op Answer) where
  -- what the board's contents list
  abbrev pub listing : Floor Model → List Item
  listing f = plain.listed (means.contents f.board)

  abbrev pub show_refusal : Floor Model → List Item → Option Refusal
  show_refusal f list = refuse_if (not (nat_le (length (listing f)) (length list))) ShortList None

  -- the contents are written over the front of the list, and the floor stays as it is
  abbrev pub show : Floor Model → List Item → List Item × Result (Unit {0}) Refusal
  show f list = taken_unless (show_refusal f list) list (over (listing f) list, tt)
