-- How the form that opens a floor is read.
use Rattle.std.specs.Prelude.{ℕ, cond, List, Some, None, codes, Option, Result}
use Rattle.std.specs.Str.{bytes_eq}
use Rattle.lex.specs.Runs.{Lexeme}
use Rattle.lex.specs.declared.fault.Fault.{Fault}
use Rattle.forms_model.specs.declared.opening.Kind.{Kind}
use Rattle.forms_model.specs.declared.opening.Kind.TheVariants.{Cutting, Pattern}
use Rattle.forms_model.specs.declared.opening.Opening.{Opening}
use Rattle.forms_model.specs.Reading.{Parsed, and_then, or_none, open_at, close_at, word_at, number_at, keyword_at, whole_of, line_form}

abbrev pub kind_of : List ℕ → Option Kind
kind_of name = cond (bytes_eq name (codes "cutting")) (Some Cutting) (cond (bytes_eq name (codes "pattern")) (Some Pattern) None)

-- what follows the kind
abbrev pub opening_body : Kind → List Lexeme → Parsed Opening
opening_body kind xs = and_then (number_at xs) (λ stations xs. and_then (number_at xs) (λ limit xs. and_then (number_at xs) (λ nodes xs. and_then (number_at xs) (λ line-nodes xs. and_then (close_at xs) (λ _ xs. Some (record { kind = kind; stations = stations; limit = limit; nodes = nodes; line_nodes = line-nodes }, xs))))))

-- (floor cutting 2 4 3 2)
abbrev pub opening_at : List Lexeme → Parsed Opening
opening_at xs = and_then (open_at xs) (λ _ xs. and_then (keyword_at (codes "floor") xs) (λ _ xs. and_then (word_at xs) (λ name xs. and_then (or_none (kind_of name) xs) opening_body)))

-- the opening that all tokens of a line are
abbrev pub opening_of : List Lexeme → Option Opening
opening_of = whole_of opening_at

-- the opening in a line of that number, or the line's fault
abbrev pub line_opening : ℕ → List ℕ → Result Opening Fault
line_opening = line_form opening_at
