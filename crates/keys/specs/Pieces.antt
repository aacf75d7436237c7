-- Piece codes: which are made, how they are ordered and how they print.
use Rattle.std.specs.Prelude.{ℕ, Bool, List, [], ◌∷◌, ◌++◌, Ok, Err, codes, decimal, Result}
use Rattle.keys.specs.declared.refusal.Refusal.{Refusal}
use Rattle.keys.specs.declared.refusal.Refusal.TheVariants.{OutOfRange}
use Rattle.keys.specs.declared.piece_code.PieceCode.{PieceCode}
use Rattle.keys.specs.Order.{lexicographic}
use Rattle.keys.specs.Ranges.{catalogued, if_so}

-- exactly the codes in range are made
abbrev pub piece_code : ℕ → ℕ → Result PieceCode Refusal
piece_code letter number = if_so (catalogued letter number) (λ p. Ok (record { letter = letter; number = number; fits = p })) (Err OutOfRange)

-- by letter and then number
abbrev pub before : PieceCode → PieceCode → Bool
before a b = lexicographic a.letter a.number b.letter b.number

abbrev pub piece_text : PieceCode → List ℕ
piece_text p = codes "(piece " ++ ((p.letter ∷ []) ++ (codes " " ++ (decimal p.number ++ codes ")")))
