use Rattle.std.proofs.Common.{vec_items}
use Rattle.nest_model.proofs.Made.{joined_by}
use Rattle.nest.proofs.making.join.Goals as goal

pub returns : goal.returns
returns g c =
    joined_by (vec_items c.args.nodes.now) c.index_mut.result.now c.index_mut-2.result.now c.link.result c.link-2.result c.requires
    c.index_mut.ensures.value c.link.ensures c.index_mut-2.ensures.value c.link-2.ensures
