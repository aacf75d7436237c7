-- Runs of letters and digits: which are words and which are numbers.
use Rattle.std.specs.Prelude.{ℕ, ◌+◌, ◌-◌, ◌*◌, Bool, cond, not, ◌&&◌, ◌||◌, List, [], ◌∷◌, length, Ok, Err, Result, ◌==◌, nat_lt}
use Rattle.std.specs.Char.{is_ascii_digit, is_ascii_alphabetic}
use Rattle.std.specs.List.{fold, list_all}
use Rattle.lex.specs.declared.token.Place.{Place}
use Rattle.lex.specs.declared.token.Token.{Token}
use Rattle.lex.specs.declared.token.Token.TheVariants.{Open, Close, Word, Number}
use Rattle.lex.specs.declared.fault.Fault.{Fault}
use Rattle.lex.specs.declared.fault.FaultKind.TheVariants.{OtherRun}
use Rattle.lex.specs.Faults.{fault_at}

-- A token as a value: a word and a number with the bytes that they are made of.
pub data Lexeme : Type 0 where
  opening : Place → Lexeme
  closing : Place → Lexeme
  word : List ℕ → Place → Lexeme
  number : List ℕ → ℕ → Place → Lexeme

abbrev pub lexeme : Token → Lexeme
lexeme (Open p) = opening p
lexeme (Close p) = closing p
lexeme (Word bytes p) = word bytes.now p
lexeme (Number bytes value p) = number bytes.now value p

abbrev pub all_digits : List ℕ → Bool
all_digits = list_all is_ascii_digit

-- a word, by its first byte and the rest: it starts with a letter and has 1 to 8 bytes
abbrev pub is_word : ℕ → List ℕ → Bool
is_word first rest = is_ascii_alphabetic first && nat_lt (length rest) 8

-- a number, by its first byte and the rest: 1 to 5 digits, and no leading zero but 0 itself
abbrev pub is_number : ℕ → List ℕ → Bool
is_number first rest = is_ascii_digit first && (all_digits rest && (nat_lt (length rest) 5 && (not (first == 48) || length rest == 0)))

-- the number that digits write in base ten, after those that write n
abbrev pub value_from : ℕ → List ℕ → ℕ
value_from = fold (λ m b. m * 10 + (b - 48))

abbrev pub value_of : List ℕ → ℕ
value_of bs = value_from 0 bs

-- what a run at a place is: a word, a number or a fault
abbrev pub run_lexeme : Place → List ℕ → Result Lexeme Fault
run_lexeme p [] = Err (fault_at OtherRun p)
run_lexeme p (b ∷ bs) =
    cond (is_word b bs) (Ok (word (b ∷ bs) p))
    (cond (is_number b bs) (Ok (number (b ∷ bs) (value_of (b ∷ bs)) p)) (Err (fault_at OtherRun p)))

-- a token that was read, as a value
abbrev pub read : Result Token Fault → Result Lexeme Fault
read (Ok token) = Ok (lexeme token)
read (Err fault) = Err fault
