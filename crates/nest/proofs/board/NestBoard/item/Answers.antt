use Rattle.std.proofs.Common.{sym, ◌∙◌}
use Rattle.std.proofs.lemmas.Iterator.Consumers.{nth_from_yields_List, YieldsList-from_first}
use Rattle.std.proofs.lemmas.Iterator.Adapters.{option_map_id}
use Rattle.nest_model.specs.Meaning.{contents}
use Rattle.nest.specs.Walk.{ahead}
use Rattle.nest.proofs.board.NestBoard.item.Goals as goal

pub returns : goal.returns
returns g c =
    sym (option_map_id c.nth.result) ∙
    nth_from_yields_List c.nth.result c.nth.new.self c.args.place c.nth.ensures.ran (YieldsList-from_first (λ (x : g.row.K.Denot). x) ahead (contents c.args.self.now) c.keys.ensures.all)
