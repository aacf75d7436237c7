-- How a size label and a cut ticket are read.
use Rattle.std.specs.Prelude.{ℕ, cond, List, Some, None, Ok, codes, Option, Result, refl}
use Rattle.std.specs.Str.{bytes_eq}
use Rattle.lex.specs.Runs.{Lexeme}
use Rattle.keys.specs.Elements.{cut_ticket, ticket_text}
use Rattle.keys.specs.Sizes.{waist_size, before, size_text}
use Rattle.keys.specs.declared.refusal.Refusal.{Refusal}
use Rattle.keys.specs.declared.size_label.LetterSize.{LetterSize}
use Rattle.keys.specs.declared.size_label.LetterSize.TheVariants.{Xs, S, M, L, Xl, Xxl}
use Rattle.keys.specs.declared.size_label.SizeLabel.{SizeLabel}
use Rattle.keys.specs.declared.size_label.SizeLabel.TheVariants.{Letter, Waist}
use Rattle.keys.specs.declared.cut_ticket.CutTicket.{CutTicket}
use Rattle.forms_model.specs.Reading.{Parsed, and_then, or_none, open_at, close_at, word_at, number_at, if_made}
use Rattle.forms_model.specs.Counted.{counted_of, made_at}
use Rattle.forms_model.specs.Rules.{Rules}

-- the size that a word names
abbrev pub letter_of : List ℕ → Option LetterSize
letter_of name =
    cond (bytes_eq name (codes "xs")) (Some Xs)
    (cond (bytes_eq name (codes "s")) (Some S)
    (cond (bytes_eq name (codes "m")) (Some M)
    (cond (bytes_eq name (codes "l")) (Some L)
    (cond (bytes_eq name (codes "xl")) (Some Xl)
    (cond (bytes_eq name (codes "xxl")) (Some Xxl) None)))))

-- what follows `letter`
abbrev pub letter_at : List Lexeme → Parsed (Result SizeLabel Refusal)
letter_at xs = and_then (word_at xs) (λ name ys. and_then (or_none (letter_of name) ys) (λ letter zs. Some (Ok (Letter letter), zs)))

abbrev pub waist_label : ℕ → ℕ → Result SizeLabel Refusal
waist_label waist leg = if_made (λ size. Ok (Waist size)) (waist_size waist leg)

-- what follows `w`
abbrev pub waist_at : List Lexeme → Parsed (Result SizeLabel Refusal)
waist_at xs = and_then (number_at xs) (λ waist ys. and_then (number_at ys) (λ leg zs. Some (waist_label waist leg, zs)))

abbrev pub size_body : List ℕ → List Lexeme → Parsed (Result SizeLabel Refusal)
size_body name xs = cond (bytes_eq name (codes "letter")) (letter_at xs) (cond (bytes_eq name (codes "w")) (waist_at xs) None)

-- (letter m) or (w 82 76)
abbrev pub size_at : List Lexeme → Parsed (Result SizeLabel Refusal)
size_at xs = and_then (open_at xs) (λ _ xs. and_then (word_at xs) (λ name xs. and_then (size_body name xs) (λ size xs. and_then (close_at xs) (λ _ xs. Some (size, xs)))))

abbrev pub ticket_of : Result SizeLabel Refusal → ℕ → Result CutTicket Refusal
ticket_of = counted_of cut_ticket

-- (ticket (letter m) 40)
abbrev pub ticket_at : List Lexeme → Parsed (Result CutTicket Refusal)
ticket_at = made_at (codes "ticket") size_at cut_ticket

-- a size label and a cut ticket that fill the unused nodes of a cutting floor; nothing shows them
abbrev pub blank_size : SizeLabel
blank_size = Letter Xs

abbrev pub blank_ticket : CutTicket
blank_ticket = record { size = blank_size; plies = 1; fits = refl }

abbrev pub cutting_rules : Rules SizeLabel CutTicket
cutting_rules = record {
  before = before;
  key_text = size_text;
  element_text = ticket_text;
  key_at = size_at;
  element_at = ticket_at;
  blank_key = blank_size;
  blank_element = blank_ticket;
}
