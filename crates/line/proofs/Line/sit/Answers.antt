-- The seats stay within the node table.
use Rattle.std.proofs.Common.{length, ap, ◌∙◌}
use Rattle.line_model.specs.Within.{in_seat}
use Rattle.line_model.proofs.Bounds.{within_seat}
use Rattle.line.specs.View.{view_of}
use Rattle.line.proofs.Line.sit.Goals as goal

pub invariant_of-self : goal.invariant_of-self
invariant_of-self g c =
    within_seat (view_of c.self.inside) c.self.invariant c.saturating_sub-at.result c.args.seat
    (ap (λ m. in_seat (length m.nodes) c.args.seat) c.self.view_is ∙ c.requires)
