use Rattle.std.proofs.Common.{◌≡◌, ◌+◌, ◌-◌, ◌≤◌, map, length, vec_items}
use Rattle.lex.specs.Runs.{lexeme}
use Rattle.lex.specs.Tokens.{lexed, before, tokens_of}
use Rattle.lex.proofs.tokens.tokens.Given as goal

abbrev pub invariant-loop-rest : goal.invariant-loop-rest
invariant-loop-rest l =
    (length l.rest ≤ length l.line.bytes.now)
    × (before (map lexeme (vec_items l.found)) (lexed l.line.number (length l.line.bytes.now - length l.rest + 1) 0 l.rest) ≡ tokens_of l.line.number l.line.bytes.now)

abbrev pub decreases-loop-rest : goal.decreases-loop-rest
decreases-loop-rest l = length l.rest
