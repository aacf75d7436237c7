-- Lists of calls on a floor, the histories that they make, and what a history tells.
use Rattle.std.specs.Prelude.{◌≡◌, ℕ, suc, ◌<◌, Bool, true, false, cond, not, List, [], ◌∷◌, length, Some, Ok, Err, Option, Result, ◌==◌}
use Rattle.std.specs.List.{slice_get}
use Rattle.keys.specs.declared.refusal.Refusal.{Refusal}
use Rattle.plain_model.specs.Machine.{Machine}
use Rattle.boards.specs.Board.{Steps, Meaning}
use Rattle.boards.specs.declared.outcome.Outcome.{Outcome}
use Rattle.floor_model.specs.declared.line.Line.{Line}
use Rattle.floor_model.specs.Floor.{Floor, line, tells_counted, tells_ready, start, touch, collect, show}

-- a floor with its ledger
pub record State (Model Op Answer : Type 0) : Type 0 where
  pub floor : Floor Model
  pub ledger : List (Line Op Answer)

-- A call on a floor whose ledger has `limit` lines. A touch goes along with the floor's ledger or with another, which is too short.
pub data Call (Op Answer Item : Type 0) (limit : ℕ) : Type 0 where
  to_start : ℕ → Op → Call Op Answer Item limit
  to_touch : ℕ → Call Op Answer Item limit
  to_touch_beside : ℕ → (other : List (Line Op Answer)) → length other < limit → Call Op Answer Item limit
  to_collect : ℕ → Call Op Answer Item limit
  to_show : List Item → Call Op Answer Item limit

-- What came of a call: it was taken, with what it told, or it was refused, that is, sent back. A show has the list that it was handed and what it made of it.
pub data Event (Op Answer Item : Type 0) : Type 0 where
  started : ℕ → Op → Event Op Answer Item
  touched : ℕ → Outcome → Option Answer → Event Op Answer Item
  collected : ℕ → Answer → Event Op Answer Item
  shown : (handed left : List Item) → Event Op Answer Item
  refused : Refusal → Event Op Answer Item

module _ {Op Answer Item : Type 0} where
  abbrev pub start_event : ℕ → Op → Result (Unit {0}) Refusal → Event Op Answer Item
  start_event p o (Ok u) = started p o
  start_event p o (Err c) = refused c

  abbrev pub touch_event : ℕ → Result (Outcome × Option Answer) Refusal → Event Op Answer Item
  touch_event p (Ok r) = touched p r.0 r.1
  touch_event p (Err c) = refused c

  abbrev pub collect_event : ℕ → Result Answer Refusal → Event Op Answer Item
  collect_event p (Ok a) = collected p a
  collect_event p (Err c) = refused c

  abbrev pub show_event : (handed left : List Item) → Result (Unit {0}) Refusal → Event Op Answer Item
  show_event handed left (Ok u) = shown handed left
  show_event handed left (Err c) = refused c

module _ {Model Plain Op Answer Item : Type 0} (plain : Machine Plain Op Answer Item) (steps : Steps Model Op Answer)
    (means : Meaning Model Plain Op Answer) where
  abbrev pub does : {limit : ℕ} → State Model Op Answer → Call Op Answer Item limit → State Model Op Answer × Event Op Answer Item
  does s (to_start p o) =
      let r = start steps means s.floor p o in (record { floor = r.0; ledger = s.ledger }, start_event p o r.1)
  does s (to_touch p) =
      let r = touch steps means s.floor p s.ledger in (record { floor = r.0.0; ledger = r.0.1 }, touch_event p r.1)
  does s (to_touch_beside p other short) =
      let r = touch steps means s.floor p other in (record { floor = r.0.0; ledger = s.ledger }, touch_event p r.1)
  does s (to_collect p) =
      let r = collect steps means s.floor p in (record { floor = r.0; ledger = s.ledger }, collect_event p r.1)
  does s (to_show list) =
      let r = show plain means s.floor list in (s, show_event list r.0 r.1)

  -- Calls and events are listed latest first.
  abbrev pub after : {limit : ℕ} → State Model Op Answer → List (Call Op Answer Item limit) → State Model Op Answer
  after s [] = s
  after s (c ∷ earlier) = (does (after s earlier) c).0

  abbrev pub history : {limit : ℕ} → State Model Op Answer → List (Call Op Answer Item limit) → List (Event Op Answer Item)
  history s [] = []
  history s (c ∷ earlier) = (does (after s earlier) c).1 ∷ history s earlier

-- The history h has the event e, and `earlier` is all that came before it.
pub data Has {E : Type 0} : List E → List E → E → Type 0 where
  last : {e : E} {earlier : List E} → Has (e ∷ earlier) earlier e
  past : {x e : E} {h earlier : List E} → Has h earlier e → Has (x ∷ h) earlier e

module _ {Op Answer Item : Type 0} where
  -- how many starts of station p were taken
  abbrev pub starts : List (Event Op Answer Item) → ℕ → ℕ
  starts [] p = 0
  starts (started q o ∷ h) p = cond (q == p) (suc (starts h p)) (starts h p)
  starts (touched q t a ∷ h) p = starts h p
  starts (collected q a ∷ h) p = starts h p
  starts (shown k l ∷ h) p = starts h p
  starts (refused c ∷ h) p = starts h p

  -- how many collects of station p were taken
  abbrev pub collects : List (Event Op Answer Item) → ℕ → ℕ
  collects [] p = 0
  collects (started q o ∷ h) p = collects h p
  collects (touched q t a ∷ h) p = collects h p
  collects (collected q a ∷ h) p = cond (q == p) (suc (collects h p)) (collects h p)
  collects (shown k l ∷ h) p = collects h p
  collects (refused c ∷ h) p = collects h p

  -- how many touches of station p were taken
  abbrev pub touches : List (Event Op Answer Item) → ℕ → ℕ
  touches [] p = 0
  touches (started q o ∷ h) p = touches h p
  touches (touched q t a ∷ h) p = cond (q == p) (suc (touches h p)) (touches h p)
  touches (collected q a ∷ h) p = touches h p
  touches (shown k l ∷ h) p = touches h p
  touches (refused c ∷ h) p = touches h p

  -- how many touches, of any station, told counted or counted ready
  abbrev pub counts : List (Event Op Answer Item) → ℕ
  counts [] = 0
  counts (started q o ∷ h) = counts h
  counts (touched q t a ∷ h) = cond (tells_counted t) (suc (counts h)) (counts h)
  counts (collected q a ∷ h) = counts h
  counts (shown k l ∷ h) = counts h
  counts (refused c ∷ h) = counts h

  -- A station waits from a taken start of it until a touch of it tells ready or counted ready.
  abbrev pub waits : List (Event Op Answer Item) → ℕ → Bool
  waits [] p = false
  waits (started q o ∷ h) p = cond (q == p) true (waits h p)
  waits (touched q t a ∷ h) p = cond (q == p) (not (tells_ready t)) (waits h p)
  waits (collected q a ∷ h) p = waits h p
  waits (shown k l ∷ h) p = waits h p
  waits (refused c ∷ h) p = waits h p

  -- no touch of a station but p was taken
  abbrev pub Undisturbed : ℕ → List (Event Op Answer Item) → Type 0
  Undisturbed p h = (q : ℕ) (t : Outcome) (a : Option Answer) (earlier : List (Event Op Answer Item)) → Has h earlier (touched q t a) → q ≡ p

  -- An operation is a taken start. Line l, with n lines before it, is that of the operation which was started after `before`: it has the
  -- station, the turn and what was handed over, and a touch of the station after that start wrote it, which counted after n others and told its answer.
  pub record Written (h before : List (Event Op Answer Item)) (n : ℕ) (l : Line Op Answer) : Type 0 where
    pub until : List (Event Op Answer Item)
    pub outcome : Outcome
    pub counted : tells_counted outcome ≡ true
    pub touch : Has h until (touched l.station outcome (Some l.answer))
    pub place : counts until ≡ n
    pub start : Has until before (started l.station l.operation)
    pub turn : l.turn ≡ suc (starts before l.station)

  -- The collect of station p after `until`, which gave a, collects the operation o started after `before`: no other collect of p lies between them.
  pub record Collects (h : List (Event Op Answer Item)) (p : ℕ) (o : Op) (a : Answer) (before until : List (Event Op Answer Item)) : Type 0 where
    pub collect : Has h until (collected p a)
    pub start : Has until before (started p o)
    pub next : collects until p ≡ collects before p

  -- The operation o of station p, started after `before`, has a line among ls, with the answer a, which was written before `until` ended.
  pub record HasLine (ls : List (Line Op Answer)) (p : ℕ) (o : Op) (a : Answer) (before until : List (Event Op Answer Item)) : Type 0 where
    pub place : ℕ
    pub stands : slice_get ls place ≡ Some (line p (suc (starts before p)) o a)
    pub written : Written until before place (line p (suc (starts before p)) o a)
