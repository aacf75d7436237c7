use Rattle.std.proofs.Common.{◌+◌, arith}
use Rattle.nest_model.specs.Cells.{front, cell_at, key_at}
use Rattle.nest_model.proofs.Walks.{listing_most}
use Rattle.nest.specs.View.{model}
use Rattle.nest.proofs.Nest.keys.Goals as goal

pub returns-clause-few : goal.returns-clause-few
returns-clause-few g c =
    let m = model c.self.inside in
    rw (← c.self.view_is) (omega (arith, listing_most (cell_at m.nodes) (key_at m.nodes) (m.size + 2) front, c.self.invariant.few_nodes))
