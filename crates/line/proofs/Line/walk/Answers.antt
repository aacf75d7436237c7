-- A walk gives what is left of it, and no more than the nodes taken.
use Rattle.std.proofs.Common.{length, ap, arith}
use Rattle.std.specs.Iterator.{YieldsFirst}
use Rattle.std.proofs.iter.runs.Sources.{from_front, as_is}
use Rattle.line_model.proofs.Walk.{after_few}
use Rattle.line.proofs.Line.walk.Goals as goal

pub returns-clause-few : goal.returns-clause-few
returns-clause-few g c = omega (arith, after_few c.self.inside.taken c.args.self.now.nodes c.self.inside.head)

pub returns-clause-runs : goal.returns-clause-runs
returns-clause-runs g c =
    λ p s. as_is p p.from (from_front (YieldsFirst (λ rest. rest)) (λ x. x) (λ rest. rest) (λ s t h. ap length h.0) (λ s x t h. h) p s)
