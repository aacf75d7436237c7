-- How tokens are read one after another.
use Rattle.std.specs.Prelude.{◌≡◌, ℕ, cond, List, [], ◌∷◌, Some, None, Ok, Err, Option, Result}
use Rattle.std.specs.Str.{bytes_eq}
use Rattle.lex.specs.Runs.{Lexeme, opening, closing, word, number}
use Rattle.lex.specs.Tokens.{tokens_of}
use Rattle.lex.specs.Faults.{no_form}
use Rattle.lex.specs.declared.fault.Fault.{Fault}
use Rattle.lex.specs.declared.fault.Stop.{Stop}
use Rattle.lex.specs.declared.fault.Stop.TheVariants.{Faulty, NoMemory}
use Rattle.keys.specs.declared.refusal.Refusal.{Refusal}

-- what is read and the tokens after it, or nothing where the tokens are no such form
abbrev pub Parsed : Type 0 → Type 0
Parsed A = Option (A × List Lexeme)

abbrev pub and_then : {A B : Type 0} → Parsed A → (A → List Lexeme → Parsed B) → Parsed B
and_then None f = None
and_then (Some x) f = f x.0 x.1

abbrev pub token_at : List Lexeme → Parsed Lexeme
token_at [] = None
token_at (x ∷ xs) = Some (x, xs)

abbrev pub as_open : Lexeme → List Lexeme → Parsed (Unit {0})
as_open (opening p) xs = Some (tt, xs)
as_open (closing p) xs = None
as_open (word bytes p) xs = None
as_open (number bytes value p) xs = None

abbrev pub as_close : Lexeme → List Lexeme → Parsed (Unit {0})
as_close (opening p) xs = None
as_close (closing p) xs = Some (tt, xs)
as_close (word bytes p) xs = None
as_close (number bytes value p) xs = None

abbrev pub as_word : Lexeme → List Lexeme → Parsed (List ℕ)
as_word (opening p) xs = None
as_word (closing p) xs = None
as_word (word bytes p) xs = Some (bytes, xs)
as_word (number bytes value p) xs = None

abbrev pub as_number : Lexeme → List Lexeme → Parsed ℕ
as_number (opening p) xs = None
as_number (closing p) xs = None
as_number (word bytes p) xs = None
as_number (number bytes value p) xs = Some (value, xs)

abbrev pub open_at : List Lexeme → Parsed (Unit {0})
open_at xs = and_then (token_at xs) as_open

abbrev pub close_at : List Lexeme → Parsed (Unit {0})
close_at xs = and_then (token_at xs) as_close

abbrev pub word_at : List Lexeme → Parsed (List ℕ)
word_at xs = and_then (token_at xs) as_word

abbrev pub number_at : List Lexeme → Parsed ℕ
number_at xs = and_then (token_at xs) as_number

-- what a word stands for, if it stands for anything
abbrev pub or_none : {A : Type 0} → Option A → List Lexeme → Parsed A
or_none None xs = None
or_none (Some x) xs = Some (x, xs)

-- a word that has to be this one
abbrev pub keyword_at : List ℕ → List Lexeme → Parsed (Unit {0})
keyword_at name xs = and_then (word_at xs) (λ bytes ys. cond (bytes_eq bytes name) (Some (tt, ys)) None)

-- A reader answered what the definition says, seen through f, and left the tokens after it.
abbrev pub TookBy : {A B : Type 0} → (A → B) → Option A → Parsed B → List Lexeme → Type 0
TookBy f None said after = said ≡ None
TookBy f (Some x) said after = said ≡ Some (f x, after)

-- the same, where nothing has to be seen through
abbrev pub Took : {A : Type 0} → Option A → Parsed A → List Lexeme → Type 0
Took = TookBy (λ x. x)

abbrev pub if_none : {A B : Type 0} → A → Option B → Option A
if_none x None = Some x
if_none x (Some y) = None

-- what is read, where no token is left
abbrev pub alone : {A : Type 0} → A → List Lexeme → Option A
alone x xs = if_none x (token_at xs)

abbrev pub whole : {A : Type 0} → Parsed A → Option A
whole None = None
whole (Some x) = alone x.0 x.1

-- a form, or the fault of a line that is none
abbrev pub or_no_form : {A : Type 0} → ℕ → Option A → Result A Fault
or_no_form line None = Err (no_form line)
or_no_form line (Some x) = Ok x

-- the form that the tokens of a line are, or the line's fault: its leftmost byte or run that is no token, or else that it is no form
abbrev pub form_of : {A : Type 0} → (List Lexeme → Option A) → ℕ → Result (List Lexeme) Fault → Result A Fault
form_of form line (Ok xs) = or_no_form line (form xs)
form_of form line (Err fault) = Err fault

-- the form that all tokens of a line are
abbrev pub whole_of : {A : Type 0} → (List Lexeme → Parsed A) → List Lexeme → Option A
whole_of at xs = whole (at xs)

-- the form in a line of that number, or the line's fault
abbrev pub line_form : {A : Type 0} → (List Lexeme → Parsed A) → ℕ → List ℕ → Result A Fault
line_form at line bytes = form_of (whole_of at) line (tokens_of line bytes)

-- what a reading tells is what the definition says, unless memory is lacking
abbrev pub Tells : {A : Type 0} → Result A Stop → Result A Fault → Type 0
Tells (Ok x) said = said ≡ Ok x
Tells (Err (Faulty fault)) said = said ≡ Err fault
Tells (Err NoMemory) said = Unit {0}

-- what is made of a value in range; a refusal stays
abbrev pub if_made : {A B : Type 0} → (A → Result B Refusal) → Result A Refusal → Result B Refusal
if_made f (Ok x) = f x
if_made f (Err refusal) = Err refusal
