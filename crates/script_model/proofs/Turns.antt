-- What one turn over the lines of a script keeps: what was printed, and what the rest is to print.
use Rattle.std.proofs.Common.{◌≡◌, ℕ, ◌+◌, true, false, cond, List, [], ◌++◌, Ok, Err, Result, sym, refl, ap, ◌∙◌, append_assoc}
use Rattle.keys.specs.declared.refusal.Refusal.{Refusal}
use Rattle.boards.specs.Board.{Steps, Meaning}
use Rattle.lex.specs.Lines.{lines_of}
use Rattle.lex.specs.NextLine.{ReadsLine}
use Rattle.lex.specs.declared.line.ScriptLine.{ScriptLine}
use Rattle.lex.specs.declared.line.Lines.{Lines}
use Rattle.lex.specs.Runs.{Lexeme}
use Rattle.lex.specs.declared.fault.Fault.{Fault}
use Rattle.forms_model.specs.Reading.{Parsed}
use Rattle.floor_model.specs.History.{State}
use Rattle.script_model.specs.Replies.{line_of, reply_text}
use Rattle.script_model.specs.Run.{Printed, then, faulted, is_closed, line_step, reported, after_close, turned, ran}
use Rattle.script_model.specs.declared.reply.Reply.{Reply}
use Rattle.script_model.specs.declared.reply.Reply.TheVariants.{Opened, Started, Touched, Collected, Closed, Refused}

-- a reply that is not that the floor is closed
pub still_open : {Answer : Type 0} (r : Reply Answer) → (r ≡ Closed → ⊥) → is_closed r ≡ false
still_open Opened ne = refl
still_open Started ne = refl
still_open (Touched outcome) ne = refl
still_open (Collected answer) ne = refl
still_open Closed ne = absurd (ne refl)
still_open (Refused reason) ne = refl

-- a text after a text
then_then : (a b : List ℕ) (p : Printed) → then (a ++ b) p ≡ then a (then b p)
then_then a b p = ap (λ (t : List ℕ). (t, p.1)) (append_assoc a b p.0)

module _ {Model Plain Op Answer : Type 0} (steps : Steps Model Op Answer) (means : Meaning Model Plain Op Answer)
    (operation_at : List Lexeme → Parsed (Result Op Refusal)) (answer_text : Answer → List ℕ) (report : State Model Op Answer → List ℕ) where
  abbrev goes : State Model Op Answer → ℕ → List (List ℕ) → Printed
  goes = ran steps means operation_at answer_text report

  abbrev ends : State Model Op Answer → ℕ → List (List ℕ) → Printed
  ends = after_close steps means operation_at answer_text report

  -- no line is left
  pub ended : (s : State Model Op Answer) (n : ℕ) (lines : List (List ℕ)) (was : List ℕ) (whole : Printed) → lines ≡ [] →
      then was (goes s n lines) ≡ whole → then was (reported steps means operation_at answer_text report s) ≡ whole
  unfolding ran
  ended s n lines was whole none inv = sym (ap (λ ls. then was (goes s n ls)) none) ∙ inv

  module _ (s : State Model Op Answer) (left : Lines) (line : ScriptLine) (after : Lines) (read : ReadsLine left line after) (was : List ℕ) (whole : Printed)
      (inv : then was (goes s left.number (lines_of left.rest.now)) ≡ whole) where
    abbrev onward : State Model Op Answer → Printed
    onward t = goes t after.number (lines_of after.rest.now)

    abbrev ending : State Model Op Answer → Printed
    ending t = ends t after.number (lines_of after.rest.now)

    -- what the line that was read and those after it print
    first_ran : goes s left.number (lines_of left.rest.now) ≡ turned steps means operation_at answer_text report (line_step steps means operation_at s line.number line.bytes.now) onward ending
    unfolding ran
    first_ran =
        ap (goes s left.number) read.lines
        ∙ ap (λ n. turned steps means operation_at answer_text report (line_step steps means operation_at s n line.bytes.now)
        (λ t. goes t (left.number + 1) (lines_of after.rest.now)) (λ t. ends t (left.number + 1) (lines_of after.rest.now))) (sym read.number)
        ∙ ap (λ n. turned steps means operation_at answer_text report (line_step steps means operation_at s line.number line.bytes.now)
        (λ t. goes t n (lines_of after.rest.now)) (λ t. ends t n (lines_of after.rest.now))) (sym read.next)

    module _ (t : State Model Op Answer) (reply : Reply Answer) (now : List ℕ)
        (told : line_step steps means operation_at s line.number line.bytes.now ≡ Ok (t, reply)) (printed : now ≡ was ++ line_of (reply_text answer_text reply)) where
      replied : then now (cond (is_closed reply) (ending t) (onward t)) ≡ whole
      replied =
          ap (λ l. then l (cond (is_closed reply) (ending t) (onward t))) printed
          ∙ then_then was (line_of (reply_text answer_text reply)) (cond (is_closed reply) (ending t) (onward t))
          ∙ ap (λ r. then was (turned steps means operation_at answer_text report r onward ending)) (sym told)
          ∙ ap (then was) (sym first_ran)
          ∙ inv

      -- the floor stays open
      pub went_on : is_closed reply ≡ false → then now (onward t) ≡ whole
      went_on still = ap (λ b. then now (cond b (ending t) (onward t))) (sym still) ∙ replied

      -- the floor is closed
      pub closed : is_closed reply ≡ true → then now (ending t) ≡ whole
      closed done = ap (λ b. then now (cond b (ending t) (onward t))) (sym done) ∙ replied

    -- the line is at fault
    pub broken : (fault : Fault) (now : List ℕ) → line_step steps means operation_at s line.number line.bytes.now ≡ Err fault → now ≡ was → then now (faulted fault) ≡ whole
    broken fault now told same =
        ap (λ l. then l (faulted fault)) same
        ∙ ap (λ r. then was (turned steps means operation_at answer_text report r onward ending)) (sym told)
        ∙ ap (then was) (sym first_ran)
        ∙ inv
