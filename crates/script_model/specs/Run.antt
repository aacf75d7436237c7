-- The run of a script on a floor: what each form makes of the floor and its ledger, what it prints, and how the run ends.
use Rattle.std.specs.Prelude.{◌≡◌, ℕ, ◌+◌, Bool, true, false, cond, List, [], ◌∷◌, ◌++◌, Some, None, Ok, Err, Option, Result}
use Rattle.keys.specs.declared.refusal.Refusal.{Refusal}
use Rattle.boards.specs.Board.{Steps, Meaning}
use Rattle.boards.specs.declared.outcome.Outcome.{Outcome}
use Rattle.lex.specs.Faults.{fault_text, no_form}
use Rattle.lex.specs.Runs.{Lexeme}
use Rattle.lex.specs.Tokens.{tokens_of}
use Rattle.lex.specs.declared.fault.Fault.{Fault}
use Rattle.lex.specs.declared.fault.Stop.{Stop}
use Rattle.lex.specs.declared.fault.Stop.TheVariants.{Faulty as StopFaulty, NoMemory as StopNoMemory}
use Rattle.forms_model.specs.Reading.{Parsed}
use Rattle.forms_model.specs.Calls.{line_call}
use Rattle.forms_model.specs.declared.call.Call.{Call}
use Rattle.forms_model.specs.declared.call.Call.TheVariants.{Start, Touch, Collect, Close}
use Rattle.floor_model.specs.Floor.{start, touch, collect, close_refusal}
use Rattle.floor_model.specs.History.{State}
use Rattle.script_model.specs.Replies.{line_of, reply_text}
use Rattle.script_model.specs.declared.reply.Reply.{Reply}
use Rattle.script_model.specs.declared.reply.Reply.TheVariants.{Opened, Started, Touched, Collected, Closed, Refused}
use Rattle.script_model.specs.declared.ending.Ending.{Ending}
use Rattle.script_model.specs.declared.ending.Ending.TheVariants.{Reported, Faulty}

-- what a run prints from some place of the script on, and how it ends
abbrev pub Printed : Type 0
Printed = List ℕ × Ending

-- a text that is printed before the rest
abbrev pub then : List ℕ → Printed → Printed
then text rest = (text ++ rest.0, rest.1)

-- a fault is printed, and ends the run
abbrev pub faulted : Fault → Printed
faulted fault = (line_of (fault_text fault), Faulty fault)

module _ {Answer : Type 0} where
  abbrev pub start_reply : Result (Unit {0}) Refusal → Reply Answer
  start_reply (Ok u) = Started
  start_reply (Err reason) = Refused reason

  abbrev pub touch_reply : Result (Outcome × Option Answer) Refusal → Reply Answer
  touch_reply (Ok told) = Touched told.0
  touch_reply (Err reason) = Refused reason

  abbrev pub collect_reply : Result Answer Refusal → Reply Answer
  collect_reply (Ok answer) = Collected answer
  collect_reply (Err reason) = Refused reason

  abbrev pub close_reply : Option Refusal → Reply Answer
  close_reply None = Closed
  close_reply (Some reason) = Refused reason

  -- the reply to a call that was taken, or that it was sent back
  abbrev pub reply_or_refusal : Result (Reply Answer) Refusal → Reply Answer
  reply_or_refusal (Ok reply) = reply
  reply_or_refusal (Err reason) = Refused reason

  abbrev pub is_closed : Reply Answer → Bool
  is_closed Opened = false
  is_closed Started = false
  is_closed (Touched outcome) = false
  is_closed (Collected answer) = false
  is_closed Closed = true
  is_closed (Refused reason) = false

-- the fault of a line that may not stand where it does: its leftmost byte or run that is no token, or else that it is no form
abbrev pub fault_or_no_form : ℕ → Result (List Lexeme) Fault → Fault
fault_or_no_form number (Ok tokens) = no_form number
fault_or_no_form number (Err fault) = fault

abbrev pub line_fault : ℕ → List ℕ → Fault
line_fault number bytes = fault_or_no_form number (tokens_of number bytes)

module _ {Model Plain Op Answer : Type 0} (steps : Steps Model Op Answer) (means : Meaning Model Plain Op Answer) where
  -- What a form after the first makes of a floor with its ledger, and the reply. A close that is taken leaves both as they are; the floor is closed then.
  abbrev pub obeyed : State Model Op Answer → Call Op → State Model Op Answer × Reply Answer
  obeyed s (Start p (Ok o)) =
      let r = start steps means s.floor p o in (record { floor = r.0; ledger = s.ledger }, start_reply r.1)
  obeyed s (Start p (Err reason)) = (s, Refused reason)
  obeyed s (Touch p) =
      let r = touch steps means s.floor p s.ledger in (record { floor = r.0.0; ledger = r.0.1 }, touch_reply r.1)
  obeyed s (Collect p) =
      let r = collect steps means s.floor p in (record { floor = r.0; ledger = s.ledger }, collect_reply r.1)
  obeyed s Close = (s, close_reply (close_refusal means s.floor))

  abbrev pub stepped : State Model Op Answer → Result (Call Op) Fault → Result (State Model Op Answer × Reply Answer) Fault
  stepped s (Err fault) = Err fault
  stepped s (Ok call) = Ok (obeyed s call)

  -- the state that a line of that number leaves and its reply, or its fault
  abbrev pub line_step : (List Lexeme → Parsed (Result Op Refusal)) → State Model Op Answer → ℕ → List ℕ → Result (State Model Op Answer × Reply Answer) Fault
  line_step operation_at s number bytes = stepped s (line_call operation_at number bytes)

  module _ (operation_at : List Lexeme → Parsed (Result Op Refusal)) (answer_text : Answer → List ℕ) (report : State Model Op Answer → List ℕ) where
    -- the report ends a run
    abbrev pub reported : State Model Op Answer → Printed
    reported s = (report s, Reported)

    -- after a close that was taken no line may follow
    abbrev pub after_close : State Model Op Answer → ℕ → List (List ℕ) → Printed
    after_close s number [] = reported s
    after_close s number (bytes ∷ lines) = faulted (line_fault number bytes)

    -- what comes of a line, by the state that it leaves and its reply, and of what follows on an open and on a closed floor
    abbrev pub turned : Result (State Model Op Answer × Reply Answer) Fault → (onward ended : State Model Op Answer → Printed) → Printed
    turned (Err fault) onward ended = faulted fault
    turned (Ok r) onward ended = then (line_of (reply_text answer_text r.1)) (cond (is_closed r.1) (ended r.0) (onward r.0))

    -- what the lines from a line of that number on print, and how they end
    unfoldable pub ran : State Model Op Answer → ℕ → List (List ℕ) → Printed
    ran s number [] = reported s
    ran s number (bytes ∷ lines) =
        turned (line_step operation_at s number bytes) (λ t. ran t (number + 1) lines) (λ t. after_close t (number + 1) lines)

-- What the run of a line told and printed, where the definition says this of it, and the state that it left. Memory may be lacking.
abbrev pub LineRan : {S Answer : Type 0} → (Answer → List ℕ) → Result (Reply Answer) Stop → Result (S × Reply Answer) Fault → (was now : List ℕ) → S → Type 0
LineRan answer_text (Ok reply) said was now left = (said ≡ Ok (left, reply)) × (now ≡ was ++ line_of (reply_text answer_text reply))
LineRan answer_text (Err (StopFaulty fault)) said was now left = (said ≡ Err fault) × (now ≡ was)
LineRan answer_text (Err StopNoMemory) said was now left = Unit {0}
