-- What a walk along the chain has before it.
use Rattle.std.specs.Prelude.{List}
use Rattle.nest_model.specs.Cells.{cell_at, key_at}
use Rattle.nest_model.specs.Chain.{listing}
use Rattle.nest.specs.declared.chain.Keys.{Keys}

abbrev pub ahead : {K : Type 0} → Keys K → List K
ahead w = listing (cell_at w.nest.now.nodes) (key_at w.nest.now.nodes) w.turns w.node
