-- Where the calls of a script end.
use Rattle.std.specs.Prelude.{◌≡◌, ℕ, List, Some, None, Ok, Err, Option, Result}
use Rattle.lex.specs.Lines.{lines_of}
use Rattle.lex.specs.declared.line.Lines.{Lines}
use Rattle.lex.specs.declared.fault.Stop.{Stop}
use Rattle.lex.specs.declared.fault.Stop.TheVariants.{Faulty, NoMemory}
use Rattle.keys.specs.declared.refusal.Refusal.{Refusal}
use Rattle.boards.specs.Board.{Steps, Meaning}
use Rattle.lex.specs.Runs.{Lexeme}
use Rattle.forms_model.specs.Reading.{Parsed}
use Rattle.floor_model.specs.History.{State}
use Rattle.script_model.specs.Run.{Printed, then, faulted, ran, reported, after_close}

-- What the calls of a script told, where the run prints `whole`: from the state that they left the run ends so that, after what is printed by
-- then, all of it is printed. The floor is open still, or it is closed and these lines are left. Memory may be lacking.
abbrev pub Ended : {S : Type 0} → (S → Printed) → (S → ℕ → List (List ℕ) → Printed) → Result (Option Lines) Stop → Printed → (now : List ℕ) → S → Type 0
Ended report closing (Ok None) whole now left = then now (report left) ≡ whole
Ended report closing (Ok (Some lines)) whole now left = then now (closing left lines.number (lines_of lines.rest.now)) ≡ whole
Ended report closing (Err (Faulty fault)) whole now left = then now (faulted fault) ≡ whole
Ended report closing (Err NoMemory) whole now left = Unit {0}

-- What lines of a script told and printed, from one state of a floor with its ledger to another, whatever the report of such a state is.
module _ {Model Plain Op Answer : Type 0} (steps : Steps Model Op Answer) (means : Meaning Model Plain Op Answer)
    (operation_at : List Lexeme → Parsed (Result Op Refusal)) (answer_text : Answer → List ℕ) where
  abbrev pub LinesRan : Result (Option Lines) Stop → Lines → (was now : List ℕ) → (s t : State Model Op Answer) → Type 0
  LinesRan r lines was now s t = (report : State Model Op Answer → List ℕ) →
      Ended (reported steps means operation_at answer_text report) (after_close steps means operation_at answer_text report) r
      (then was (ran steps means operation_at answer_text report s lines.number (lines_of lines.rest.now))) now t
