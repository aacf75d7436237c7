-- The lines of a script.
use Rattle.std.specs.Prelude.{ℕ, Bool, cond, not, List, [], ◌∷◌, take, drop, ◌==◌}
use Rattle.std.specs.List.{prefix_len}

-- a byte that is no newline
abbrev pub in_line : ℕ → Bool
in_line b = not (b == 10)

-- a byte in front of the first line
abbrev pub onto : ℕ → List (List ℕ) → List (List ℕ)
onto b [] = (b ∷ []) ∷ []
onto b (line ∷ lines) = (b ∷ line) ∷ lines

-- A newline ends a line, and the last one may be absent: no bytes are no line, and a newline alone is an empty line.
abbrev pub lines_of : List ℕ → List (List ℕ)
lines_of [] = []
lines_of (b ∷ bs) = cond (in_line b) (onto b (lines_of bs)) ([] ∷ lines_of bs)

-- the bytes before the first newline
abbrev pub first_of : List ℕ → List ℕ
first_of bs = take (prefix_len in_line bs) bs

-- the bytes after the first newline
abbrev pub after_first : List ℕ → List ℕ
after_first bs = drop 1 (drop (prefix_len in_line bs) bs)
