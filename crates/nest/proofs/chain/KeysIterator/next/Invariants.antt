use Rattle.std.proofs.Common.{◌≡◌}
use Rattle.nest.specs.Walk.{ahead}
use Rattle.nest.proofs.chain.KeysIterator.next.Given as goal

-- what was before the walk when it began is before it still
abbrev pub invariant-loop-self : goal.invariant-loop-self
invariant-loop-self g l = ahead l.self ≡ ahead l.initial.self

abbrev pub decreases-loop-self : goal.decreases-loop-self
decreases-loop-self g l = l.self.turns
