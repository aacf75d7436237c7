use Rattle.std.proofs.Common.{◌≡◌, ◌+◌, ◌*◌, ◌^◌, ◌≤◌, drop}
use Rattle.lex.specs.Runs.{value_from, value_of}
use Rattle.lex.proofs.run.value.Given as goal

-- a byte less 48 is at most 207, and 23 times 9 is 207
abbrev pub invariant-loop-digit : goal.invariant-loop-digit
invariant-loop-digit l = (l.value + 23 ≤ 23 * 10 ^ l.digit-index) × (value_from l.value (drop l.digit-index l.digits) ≡ value_of l.digits)
