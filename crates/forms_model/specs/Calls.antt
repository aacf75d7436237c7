-- How the forms that call a floor are read, by how the operations of its trade are.
use Rattle.std.specs.Prelude.{ℕ, cond, List, Some, None, codes, Option, Result}
use Rattle.std.specs.Str.{bytes_eq}
use Rattle.lex.specs.Runs.{Lexeme}
use Rattle.lex.specs.declared.fault.Fault.{Fault}
use Rattle.keys.specs.declared.refusal.Refusal.{Refusal}
use Rattle.forms_model.specs.declared.call.Call.{Call}
use Rattle.forms_model.specs.declared.call.Call.TheVariants.{Start, Touch, Collect, Close}
use Rattle.forms_model.specs.declared.verb.CallName.{CallName}
use Rattle.forms_model.specs.declared.verb.CallName.TheVariants as name
use Rattle.forms_model.specs.Reading.{Parsed, and_then, or_none, open_at, close_at, word_at, number_at, whole_of, line_form}

abbrev pub name_of : List ℕ → Option CallName
name_of word =
    cond (bytes_eq word (codes "start")) (Some name.Start)
    (cond (bytes_eq word (codes "touch")) (Some name.Touch)
    (cond (bytes_eq word (codes "collect")) (Some name.Collect)
    (cond (bytes_eq word (codes "close")) (Some name.Close) None)))

module _ {Op : Type 0} (operation_at : List Lexeme → Parsed (Result Op Refusal)) where
  -- what follows the name
  abbrev pub call_body : CallName → List Lexeme → Parsed (Call Op)
  call_body name.Start xs = and_then (number_at xs) (λ station xs. and_then (operation_at xs) (λ operation xs. Some (Start station operation, xs)))
  call_body name.Touch xs = and_then (number_at xs) (λ station xs. Some (Touch station, xs))
  call_body name.Collect xs = and_then (number_at xs) (λ station xs. Some (Collect station, xs))
  call_body name.Close xs = Some (Close, xs)

  -- (start P OP), (touch P), (collect P) or (close)
  abbrev pub call_at : List Lexeme → Parsed (Call Op)
  call_at xs = and_then (open_at xs) (λ _ xs. and_then (word_at xs) (λ word xs. and_then (or_none (name_of word) xs) (λ name xs. and_then (call_body name xs) (λ call xs. and_then (close_at xs) (λ _ xs. Some (call, xs))))))

  -- the call that all tokens of a line are
  abbrev pub call_of : List Lexeme → Option (Call Op)
  call_of = whole_of call_at

  -- the call in a line of that number, or the line's fault
  abbrev pub line_call : ℕ → List ℕ → Result (Call Op) Fault
  line_call = line_form call_at
