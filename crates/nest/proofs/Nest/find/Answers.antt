use Rattle.std.proofs.Common.{◌∙◌}
use Rattle.nest.proofs.Reading.{item_nth}
use Rattle.nest.proofs.Nest.find.Goals as goal

pub returns : goal.returns
returns g c =
    rw (← c.self.view_is)
    (c.copied.ensures ∙ item_nth c.self.inside.nodes.items _ c.args.n c.get.result c.deref.ensures.value c.get.ensures.lookup)
