-- The node table holds copies of the blank node, over which the nest is made.
use Rattle.std.proofs.Common.{ap, ◌∙◌}
use Rattle.nest_model.specs.Making.{made}
use Rattle.shop.proofs.making.make_nest.Goals as goal

pub returns-clause-is : goal.returns-clause-is
returns-clause-is g c =
    c.new.ensures.is ∙ ap (λ ns. made c.args.stations c.args.nodes ns) c.in_ok-node_table.ensures.items
