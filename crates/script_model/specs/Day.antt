-- The run of a script as a list of calls on its floor.
use Rattle.std.specs.Prelude.{◌≡◌, ℕ, List, [], ◌∷◌, ◌++◌, codes}
use Rattle.keys.specs.declared.refusal.Refusal.{Refusal}
use Rattle.plain_model.specs.Machine.{Machine}
use Rattle.boards.specs.Board.{Steps, Meaning}
use Rattle.lex.specs.declared.fault.Fault.{Fault}
use Rattle.floor_model.specs.History.{State, Call, Event, started, touched, collected, shown, refused, after, history}
use Rattle.floor_model.specs.Law.{Holds}
use Rattle.script_model.specs.Replies.{line_of, outcome_text, refusal_text}
use Rattle.script_model.specs.Run.{Printed, then, faulted}
use Rattle.script_model.specs.declared.ending.Ending.TheVariants.{Reported}

-- what an event of a floor's history prints; no form of a script shows
abbrev pub event_text : {Op Answer Item : Type 0} → (Answer → List ℕ) → Event Op Answer Item → List ℕ
event_text answer (started p o) = codes "(started)"
event_text answer (touched p t a) = outcome_text t
event_text answer (collected p a) = answer a
event_text answer (shown handed left) = []
event_text answer (refused reason) = refusal_text reason

-- The text is the replies to the events of a history, a line each, the oldest first, and to forms that were sent back before they reached the floor.
pub data Replies {Op Answer Item : Type 0} (answer : Answer → List ℕ) : List (Event Op Answer Item) → List ℕ → Type 0 where
  silent : Replies answer [] []
  told : {h : List (Event Op Answer Item)} {text : List ℕ} → Replies answer h text → (e : Event Op Answer Item) → Replies answer (e ∷ h) (text ++ line_of (event_text answer e))
  sent_back : {h : List (Event Op Answer Item)} {text : List ℕ} → Replies answer h text → (reason : Refusal) → Replies answer h (text ++ line_of (refusal_text reason))

-- What is printed last: the report of the state that is then, or a fault; before either the floor may have been closed.
pub data Ends {S : Type 0} (report : S → List ℕ) (s : S) : Printed → Type 0 where
  with_report : Ends report s (report s, Reported)
  at_fault : (fault : Fault) → Ends report s (faulted fault)
  closed_with_report : Ends report s (then (line_of (codes "(closed)")) (report s, Reported))
  closed_at_fault : (fault : Fault) → Ends report s (then (line_of (codes "(closed)")) (faulted fault))

module _ {Model Plain Op Answer Item : Type 0} (plain : Machine Plain Op Answer Item) (steps : Steps Model Op Answer) (means : Meaning Model Plain Op Answer)
    (answer : Answer → List ℕ) (report : State Model Op Answer → List ℕ) where
  -- What a run prints is that of a list of calls on the floor, from the state s: their replies, and then the end of the run.
  pub record RunOf (limit : ℕ) (s : State Model Op Answer) (printed : Printed) : Type 0 where
    -- latest first
    pub calls : List (Call Op Answer Item limit)
    pub text : List ℕ
    pub replies : Replies answer (history plain steps means s calls) text
    pub last : Printed
    pub ends : Ends report (after plain steps means s calls) last
    pub whole : printed ≡ then text last

  -- A run on a floor with its ledger, after whose calls the law of the floor holds.
  pub record LawfulRun (limit : ℕ) (s : State Model Op Answer) (printed : Printed) : Type 0 where
    pub run : RunOf limit s printed
    pub law : Holds plain steps means limit (after plain steps means s run.calls) (history plain steps means s run.calls)
