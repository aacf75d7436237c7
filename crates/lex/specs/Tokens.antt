-- The tokens of a line, or its leftmost fault.
use Rattle.std.specs.Prelude.{◌≡◌, ℕ, zero, suc, ◌+◌, cond, List, [], ◌∷◌, ◌++◌, map, take, Some, None, Ok, Err, vec_items, Option, Result, Vec, ◌==◌}
use Rattle.std.specs.Char.{is_ascii_alphanumeric}
use Rattle.std.specs.List.{prefix_len}
use Rattle.lex.specs.declared.token.Place.{Place}
use Rattle.lex.specs.declared.token.Token.{Token}
use Rattle.lex.specs.declared.fault.Fault.{Fault}
use Rattle.lex.specs.declared.fault.FaultKind.TheVariants.{OtherByte}
use Rattle.lex.specs.declared.fault.Stop.{Stop}
use Rattle.lex.specs.declared.fault.Stop.TheVariants.{Faulty, NoMemory}
use Rattle.lex.specs.Faults.{fault_at}
use Rattle.lex.specs.Runs.{Lexeme, lexeme, opening, closing, run_lexeme}

abbrev pub some : Result Lexeme Fault → Result (Option Lexeme) Fault
some (Ok x) = Ok (Some x)
some (Err fault) = Err fault

-- what a part of a line is: nothing, a token or a fault
abbrev pub part_lexeme : Place → List ℕ → Result (Option Lexeme) Fault
part_lexeme p [] = Ok None
part_lexeme p (b ∷ bs) =
    cond (b == 32) (Ok None)
    (cond (b == 40) (Ok (Some (opening p)))
    (cond (b == 41) (Ok (Some (closing p)))
    (cond (is_ascii_alphanumeric b) (some (run_lexeme p (b ∷ bs))) (Err (fault_at OtherByte p)))))

-- how many of the bytes after the first belong to its part: the rest of a run, or none
abbrev pub extent : ℕ → List ℕ → ℕ
extent first after = cond (is_ascii_alphanumeric first) (prefix_len is_ascii_alphanumeric after) 0

-- a part before the tokens that follow it; the leftmost fault is the one told
abbrev pub joins : Result (Option Lexeme) Fault → Result (List Lexeme) Fault → Result (List Lexeme) Fault
joins (Err fault) others = Err fault
joins (Ok None) others = others
joins (Ok (Some x)) (Ok xs) = Ok (x ∷ xs)
joins (Ok (Some x)) (Err fault) = Err fault

abbrev pub placed : ℕ → ℕ → Place
placed line byte = record { line = line; byte = byte }

-- the tokens of bytes that stand in a line from the given byte on, of which the first `inside` belong to the part before
abbrev pub lexed : (line byte inside : ℕ) → List ℕ → Result (List Lexeme) Fault
lexed line byte inside [] = Ok []
lexed line byte zero (b ∷ bs) = joins (part_lexeme (placed line byte) (b ∷ take (extent b bs) bs)) (lexed line (byte + 1) (extent b bs) bs)
lexed line byte (suc inside) (b ∷ bs) = lexed line (byte + 1) inside bs

-- the tokens of a line of that number, or its leftmost fault
abbrev pub tokens_of : ℕ → List ℕ → Result (List Lexeme) Fault
tokens_of line bytes = lexed line 1 0 bytes

-- tokens that stand before those of a result
abbrev pub before : List Lexeme → Result (List Lexeme) Fault → Result (List Lexeme) Fault
before xs (Ok ys) = Ok (xs ++ ys)
before xs (Err fault) = Err fault

-- a part that was read, as a value
abbrev pub read_part : Result (Option Token) Fault → Result (Option Lexeme) Fault
read_part (Ok None) = Ok None
read_part (Ok (Some token)) = Ok (Some (lexeme token))
read_part (Err fault) = Err fault

-- what a reading of a line tells is what the definition says, unless memory is lacking
abbrev pub Reads : {Z : Type 0} → Result (Vec Token Z) Stop → Result (List Lexeme) Fault → Type 0
Reads (Ok tokens) said = said ≡ Ok (map lexeme (vec_items tokens))
Reads (Err (Faulty fault)) said = said ≡ Err fault
Reads (Err NoMemory) said = Unit {0}
