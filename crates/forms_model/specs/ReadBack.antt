-- What prints as a form reads back to the same value.
use Rattle.std.specs.Prelude.{◌≡◌, ℕ, ◌+◌, List, ◌++◌, length, Some, Ok, Result}
use Rattle.lex.specs.Runs.{Lexeme}
use Rattle.lex.specs.Tokens.{lexed, before}
use Rattle.keys.specs.declared.refusal.Refusal.{Refusal}
use Rattle.forms_model.specs.Reading.{Parsed, line_form}

-- bytes that stand in a line from the given byte on are these tokens, whatever follows them
abbrev pub Lexes : (line byte : ℕ) → List ℕ → List Lexeme → Type 0
Lexes line byte bytes tokens = (after : List ℕ) → lexed line byte 0 (bytes ++ after) ≡ before tokens (lexed line (byte + length bytes) 0 after)

-- Every value's text, wherever it stands in a line and whatever follows it, is tokens that read as that value, and nothing after them is read.
abbrev pub ReadsBack : {A : Type 0} → (A → List ℕ) → (List Lexeme → Parsed (Result A Refusal)) → Type 0
ReadsBack {A} text at = (x : A) (line byte : ℕ) → (tokens : List Lexeme) × Lexes line byte (text x) tokens × ((after : List Lexeme) → at (tokens ++ after) ≡ Some (Ok x, after))

-- a line of one value's text reads as that value
abbrev pub ReadsBackAlone : {A : Type 0} → (A → List ℕ) → (List Lexeme → Parsed (Result A Refusal)) → Type 0
ReadsBackAlone {A} text at = (x : A) (line : ℕ) → line_form at line (text x) ≡ Ok (Ok x)
