-- Lines of a script, read one after another.
use Rattle.std.specs.Prelude.{◌≡◌, ◌+◌, [], ◌∷◌, Some, None, Option}
use Rattle.lex.specs.Lines.{lines_of, first_of, after_first}
use Rattle.lex.specs.declared.line.ScriptLine.{ScriptLine}
use Rattle.lex.specs.declared.line.Lines.{Lines}

-- The first of the lines that were left was read, and the others are left by now.
pub record ReadsLine (was : Lines) (line : ScriptLine) (now : Lines) : Type 0 where
  pub lines : lines_of was.rest.now ≡ line.bytes.now ∷ lines_of now.rest.now
  pub bytes : line.bytes.now ≡ first_of was.rest.now
  pub rest : now.rest.now ≡ after_first was.rest.now
  pub number : line.number ≡ was.number
  pub next : now.number ≡ was.number + 1

-- the next line, or none where none is left
abbrev pub GivesLine : Lines → Option ScriptLine → Lines → Type 0
GivesLine was None now = (lines_of was.rest.now ≡ []) × (now.rest.now ≡ was.rest.now) × (now.number ≡ was.number)
GivesLine was (Some line) now = ReadsLine was line now
