-- The model of a nest that the code holds.
use Rattle.std.specs.Prelude.{◌≡◌, ◌+◌, ◌≤◌, length, vec_items}
use Rattle.nest_model.specs.Model.{NestModel}
use Rattle.nest.specs.declared.Nest.TheInside.{Inside}

abbrev pub model : {K : Type 0} → Inside K → NestModel K
model n = record { size = n.size; taken = n.taken; nodes = vec_items n.nodes; works = vec_items n.works }

-- How long the tables are, and how many nodes were taken.
pub record IsTabled {K : Type 0} (m : NestModel K) : Type 0 where
  pub some_stations : 1 ≤ length m.works
  pub few_stations : length m.works ≤ 16
  pub some_nodes : 1 ≤ m.size
  pub few_nodes : m.size ≤ 512
  pub tabled : length m.nodes ≡ m.size + 2
  pub enough : m.taken ≤ m.size
