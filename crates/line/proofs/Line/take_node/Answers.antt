-- The node is written within the node table.
use Rattle.std.proofs.Common.{◌<◌, length, sym, subst}
use Rattle.line_model.proofs.Bounds.{within_take}
use Rattle.line.specs.View.{view_of}
use Rattle.line.proofs.Line.take_node.Goals as goal

pub invariant_of-self : goal.invariant_of-self
invariant_of-self g c =
    within_take (view_of c.self.inside) c.self.invariant c.args.element (subst (λ m. m.taken < length m.nodes) (sym c.self.view_is) c.requires)
