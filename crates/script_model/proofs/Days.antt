-- Every run of lines is that of a list of calls on its floor.
use Rattle.std.proofs.Common.{◌≡◌, ℕ, ◌+◌, false, cond, List, [], ◌∷◌, ◌++◌, Some, None, Ok, Err, codes, Option, Result, sym, refl, ap, ◌∙◌, append_assoc}
use Rattle.keys.specs.declared.refusal.Refusal.{Refusal}
use Rattle.plain_model.specs.Machine.{Machine}
use Rattle.boards.specs.Board.{Steps, Meaning}
use Rattle.boards.specs.declared.outcome.Outcome.{Outcome}
use Rattle.lex.specs.Runs.{Lexeme}
use Rattle.lex.specs.declared.fault.Fault.{Fault}
use Rattle.forms_model.specs.Reading.{Parsed}
use Rattle.forms_model.specs.Calls.{line_call}
use Rattle.forms_model.specs.declared.call.Call.{Call as Form}
use Rattle.forms_model.specs.declared.call.Call.TheVariants.{Start, Touch, Collect, Close}
use Rattle.floor_model.specs.Floor.{start, touch, collect, close_refusal}
use Rattle.floor_model.specs.History.{State, Call, to_start, to_touch, to_collect, start_event, touch_event, collect_event, does, after, history}
use Rattle.script_model.specs.Day.{event_text, Replies, silent, told, sent_back, with_report, at_fault, closed_with_report, closed_at_fault, RunOf}
use Rattle.script_model.specs.Replies.{line_of, reply_text, refusal_text}
use Rattle.script_model.specs.Run.{Printed, then, faulted, line_fault, start_reply, touch_reply, collect_reply, close_reply, is_closed, stepped, after_close, turned, ran}
use Rattle.script_model.specs.declared.reply.Reply.{Reply}

module _ {Model Plain Op Answer Item : Type 0} (plain : Machine Plain Op Answer Item) (steps : Steps Model Op Answer) (means : Meaning Model Plain Op Answer)
    (operation_at : List Lexeme → Parsed (Result Op Refusal)) (answer : Answer → List ℕ) (report : State Model Op Answer → List ℕ) (limit : ℕ) (s₀ : State Model Op Answer) where
  abbrev Made : List (Call Op Answer Item limit) → State Model Op Answer
  Made calls = after plain steps means s₀ calls

  abbrev Told : List (Call Op Answer Item limit) → List ℕ → Type 0
  Told calls text = Replies answer (history plain steps means s₀ calls) text

  abbrev goes : State Model Op Answer → ℕ → List (List ℕ) → Printed
  goes = ran steps means operation_at answer report

  -- what is printed after a text and a line is printed after the two
  further : (text line : List ℕ) (rest : Printed) → then text (then line rest) ≡ then (text ++ line) rest
  further text line rest = ap (λ (t : List ℕ). let p : Printed = (t, rest.1) in p) (sym (append_assoc text line rest.0))

  -- the events of the floor's calls print as the replies of the forms
  start_prints : (p : ℕ) (o : Op) (r : Result (Unit {0}) Refusal) → reply_text answer (start_reply r) ≡ event_text answer (start_event {Item = Item} p o r)
  start_prints p o (Ok u) = refl
  start_prints p o (Err reason) = refl

  touch_prints : (p : ℕ) (r : Result (Outcome × Option Answer) Refusal) → reply_text answer (touch_reply r) ≡ event_text answer (touch_event {Op = Op} {Item = Item} p r)
  touch_prints p (Ok r) = refl
  touch_prints p (Err reason) = refl

  collect_prints : (p : ℕ) (r : Result Answer Refusal) → reply_text answer (collect_reply r) ≡ event_text answer (collect_event {Op = Op} {Item = Item} p r)
  collect_prints p (Ok a) = refl
  collect_prints p (Err reason) = refl

  start_open : (r : Result (Unit {0}) Refusal) → is_closed {Answer = Answer} (start_reply r) ≡ false
  start_open (Ok u) = refl
  start_open (Err reason) = refl

  touch_open : (r : Result (Outcome × Option Answer) Refusal) → is_closed (touch_reply r) ≡ false
  touch_open (Ok r) = refl
  touch_open (Err reason) = refl

  collect_open : (r : Result Answer Refusal) → is_closed (collect_reply r) ≡ false
  collect_open (Ok a) = refl
  collect_open (Err reason) = refl

  abbrev ending : State Model Op Answer → ℕ → List (List ℕ) → Printed
  ending = after_close steps means operation_at answer report

  abbrev Run : Printed → Type 0
  Run = RunOf plain steps means answer report limit s₀

  -- one line of a run, by what the lines after it print
  module _ (lines : List (List ℕ)) (number : ℕ) (calls : List (Call Op Answer Item limit)) (text : List ℕ) (printed : Printed) (replies : Told calls text)
      (onward : (calls' : List (Call Op Answer Item limit)) (text' : List ℕ) → Told calls' text' → printed ≡ then text' (goes (Made calls') number lines) → Run printed) where
    -- a form that is sent back before it reaches the floor
    back_step : (reason : Refusal) → printed ≡ then text (then (line_of (refusal_text reason)) (goes (Made calls) number lines)) → Run printed
    back_step reason whole =
        onward calls (text ++ line_of (refusal_text reason)) (sent_back replies reason) (whole ∙ further text (line_of (refusal_text reason)) (goes (Made calls) number lines))

    -- a call of the floor
    call_step : (call : Call Op Answer Item limit) (reply : Reply Answer) (closed : Printed) →
        reply_text answer reply ≡ event_text answer (does plain steps means (Made calls) call).1 → is_closed reply ≡ false →
        printed ≡ then text (then (line_of (reply_text answer reply)) (cond (is_closed reply) closed (goes (does plain steps means (Made calls) call).0 number lines))) → Run printed
    call_step call reply closed same still whole =
        onward (call ∷ calls) (text ++ line_of (event_text answer (does plain steps means (Made calls) call).1)) (told replies (does plain steps means (Made calls) call).1)
        (whole
        ∙ ap (λ b. then text (then (line_of (reply_text answer reply)) (cond b closed (goes (does plain steps means (Made calls) call).0 number lines)))) still
        ∙ ap (λ t. then text (then (line_of t) (goes (does plain steps means (Made calls) call).0 number lines))) same
        ∙ further text (line_of (event_text answer (does plain steps means (Made calls) call).1)) (goes (does plain steps means (Made calls) call).0 number lines))

    -- after a close that is taken
    closed_step : (others : List (List ℕ)) → printed ≡ then text (then (line_of (codes "(closed)")) (ending (Made calls) number others)) → Run printed
    closed_step [] whole = record { calls = calls; text = text; replies = replies; last = _; ends = closed_with_report; whole = whole }
    closed_step (bytes ∷ others) whole = record { calls = calls; text = text; replies = replies; last = _; ends = closed_at_fault (line_fault number bytes); whole = whole }

    close_step : (reason : Option Refusal) →
        printed ≡ then text (then (line_of (reply_text answer (close_reply reason))) (cond (is_closed {Answer = Answer} (close_reply reason)) (ending (Made calls) number lines) (goes (Made calls) number lines))) →
        Run printed
    close_step None whole = closed_step lines whole
    close_step (Some reason) whole = back_step reason whole

    line_run : (form : Result (Form Op) Fault) →
        printed ≡ then text (turned steps means operation_at answer report (stepped steps means (Made calls) form) (λ t. goes t number lines) (λ t. ending t number lines)) → Run printed
    line_run (Err fault) whole = record { calls = calls; text = text; replies = replies; last = faulted fault; ends = at_fault fault; whole = whole }
    line_run (Ok (Start p (Ok o))) whole =
        let r = start steps means (Made calls).floor p o in
        let call : Call Op Answer Item limit = to_start p o in
        call_step call (start_reply r.1) (ending (does plain steps means (Made calls) call).0 number lines) (start_prints p o r.1) (start_open r.1) whole
    line_run (Ok (Start p (Err reason))) whole = back_step reason whole
    line_run (Ok (Touch p)) whole =
        let r = touch steps means (Made calls).floor p (Made calls).ledger in
        let call : Call Op Answer Item limit = to_touch p in
        call_step call (touch_reply r.1) (ending (does plain steps means (Made calls) call).0 number lines) (touch_prints p r.1) (touch_open r.1) whole
    line_run (Ok (Collect p)) whole =
        let r = collect steps means (Made calls).floor p in
        let call : Call Op Answer Item limit = to_collect p in
        call_step call (collect_reply r.1) (ending (does plain steps means (Made calls) call).0 number lines) (collect_prints p r.1) (collect_open r.1) whole
    line_run (Ok Close) whole = close_step (close_refusal means (Made calls).floor) whole

  lines_run : (lines : List (List ℕ)) (number : ℕ) (calls : List (Call Op Answer Item limit)) (text : List ℕ) (printed : Printed) → Told calls text →
      printed ≡ then text (goes (Made calls) number lines) → Run printed
  unfolding ran
  lines_run [] number calls text printed replies whole = record { calls = calls; text = text; replies = replies; last = _; ends = with_report; whole = whole }
  lines_run (bytes ∷ lines) number calls text printed replies whole =
      line_run lines (number + 1) calls text printed replies (λ calls' text' replies' whole'. lines_run lines (number + 1) calls' text' printed replies' whole')
      (line_call operation_at number bytes) whole

  -- what lines print from a floor's first state on
  pub run_of : (lines : List (List ℕ)) (number : ℕ) → Run (goes s₀ number lines)
  run_of lines number = lines_run lines number [] [] (goes s₀ number lines) silent refl
