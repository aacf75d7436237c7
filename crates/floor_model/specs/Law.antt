-- The law of a floor: what holds after every list of calls.
use Rattle.std.specs.Prelude.{◌≡◌, ℕ, ◌<◌, ◌≤◌, true, ◌⊎◌, List, ◌∷◌, ◌++◌, map, length, take, Some, Option}
use Rattle.std.specs.List.{slice_get}
use Rattle.keys.specs.declared.refusal.Refusal.{Refusal}
use Rattle.plain_model.specs.Machine.{Machine, replay}
use Rattle.boards.specs.Board.{Steps, Meaning, Fresh, is_waiting, over}
use Rattle.boards.specs.declared.outcome.Outcome.{Outcome}
use Rattle.floor_model.specs.declared.line.Line.{Line}
use Rattle.floor_model.specs.Floor.{Floor, turn, station, is_ready, tells_ready, written_lines}
use Rattle.floor_model.specs.History.{State, Call, to_touch, Event, touched, collected, shown, refused, does, after, history, Has, starts, touches, counts, waits, Undisturbed, Written, Collects, HasLine}

-- what the operations of the lines make of an empty plain machine: its state and their answers
abbrev pub replayed : {Plain Op Answer Item : Type 0} → Machine Plain Op Answer Item → List (Line Op Answer) → Plain × List Answer
replayed plain ls = replay plain (map (λ l. l.operation) ls) plain.empty

module _ {Model Plain Op Answer Item : Type 0} (plain : Machine Plain Op Answer Item) (steps : Steps Model Op Answer)
    (means : Meaning Model Plain Op Answer) where
  -- the lines that are written
  abbrev pub lines : State Model Op Answer → List (Line Op Answer)
  lines s = written_lines s.floor s.ledger

  -- Within the first `most` taken touches of station p one told that it is ready, and then it was ready: that touch is the last of the calls `until`.
  pub record ReadyWithin {limit : ℕ} (most : ℕ) (s : State Model Op Answer) (p : ℕ) (calls : List (Call Op Answer Item limit)) : Type 0 where
    pub later : List (Call Op Answer Item limit)
    pub until : List (Call Op Answer Item limit)
    pub parts : calls ≡ later ++ until
    pub earlier : List (Event Op Answer Item)
    pub outcome : Outcome
    pub answer : Option Answer
    pub touch : history plain steps means s until ≡ touched p outcome answer ∷ earlier
    pub told : tells_ready outcome ≡ true
    pub ready : is_ready (station means (after plain steps means s until).floor p) ≡ true
    pub soon : touches (history plain steps means s until) p ≤ most

  -- What holds of a floor with its ledger, and of the history that led to it.
  pub record Holds (limit : ℕ) (s : State Model Op Answer) (h : List (Event Op Answer Item)) : Type 0 where
    -- A call that is sent back changes nothing.
    pub sent_back : (call : Call Op Answer Item limit) (reason : Refusal) → (does plain steps means s call).1 ≡ refused reason →
        (does plain steps means s call).0 ≡ s
    -- A station's turn is the number of its taken starts.
    pub turns : (p : ℕ) → turn s.floor p ≡ starts h p
    -- As many lines are written as touches told that they counted, and no more than the limit.
    pub as_many : (s.floor.written ≡ counts h) × (s.floor.written ≤ limit)
    -- Whatever is called, the lines written so far stay, each at its place.
    pub lines_stay : (calls : List (Call Op Answer Item limit)) →
        let t = after plain steps means s calls in
        (s.floor.written ≤ t.floor.written) × (take s.floor.written t.ledger ≡ lines s)
    -- Each line is that of an operation, and a touch of its station wrote it after its start.
    pub no_other_line : (n : ℕ) (l : Line Op Answer) → slice_get (lines s) n ≡ Some l → (before : List (Event Op Answer Item)) × Written h before n l
    -- No operation, collected or not, has two lines.
    pub one_line : (m n : ℕ) (k l : Line Op Answer) → slice_get (lines s) m ≡ Some k → slice_get (lines s) n ≡ Some l →
        k.station ≡ l.station → k.turn ≡ l.turn → m ≡ n
    -- A collected operation has its line, written between its start and its collection, with the answer that the collect gave.
    pub collected_line : (p : ℕ) (o : Op) (a : Answer) (before until : List (Event Op Answer Item)) → Collects h p o a before until →
        HasLine (lines s) p o a before until
    -- Each taken collect collects an operation.
    pub collected_start : (p : ℕ) (a : Answer) (until : List (Event Op Answer Item)) → Has h until (collected p a) →
        (before : List (Event Op Answer Item)) × (o : Op) × Collects h p o a before until
    -- The lines' operations, replayed from empty, give the answer in each line and end in what the board now holds.
    pub replays : replayed plain (lines s) ≡ (means.contents s.floor.board, map (λ l. l.answer) (lines s))
    -- Each taken show wrote over the front of its list the listing of what the lines written by then replay to.
    pub shows : (handed left : List Item) (earlier : List (Event Op Answer Item)) → Has h earlier (shown handed left) →
        left ≡ over (plain.listed (replayed plain (take (counts earlier) (lines s))).0) handed
    -- A station waits on the board exactly when it waits by the history.
    pub waiting : (p : ℕ) → is_waiting (station means s.floor p) ≡ waits h p
    -- A touch of a waiting station, with the floor's ledger, is taken.
    pub touchable : (p : ℕ) → waits h p ≡ true →
        let call : Call Op Answer Item limit = to_touch p in
        (t : Outcome) × (a : Option Answer) × ((does plain steps means s call).1 ≡ touched p t a)
    -- From here, while no other station's touch is taken, a waiting station is ready within the board's bound of its own taken touches,
    -- or it waits still and had fewer of them.
    pub soon_ready : (p : ℕ) → waits h p ≡ true → (calls : List (Call Op Answer Item limit)) →
        let more = history plain steps means s calls in
        let bound = means.bound s.floor.board in
        Undisturbed p more →
        ReadyWithin bound s p calls ⊎ ((is_waiting (station means (after plain steps means s calls).floor p) ≡ true) × (touches more p < bound))

  -- The law of a floor with its ledger: this holds after every list of calls.
  abbrev pub Law : State Model Op Answer → Type 0
  Law s = (calls : List (Call Op Answer Item s.floor.limit)) →
      Holds s.floor.limit (after plain steps means s calls) (history plain steps means s calls)

  -- The law of a floor just opened over a sound and fresh board, with every ledger that is long enough.
  abbrev pub Opening : (Model → Type 0) → Floor Model → Type 0
  Opening sound f = sound f.board → Fresh means plain.empty f.board →
      (ledger : List (Line Op Answer)) → f.limit ≤ length ledger → Law (record { floor = f; ledger = ledger })
