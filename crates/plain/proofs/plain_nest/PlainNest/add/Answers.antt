-- The key is inserted where it belongs.
use Rattle.std.proofs.Common.{vec_items, rules}
use Rattle.plain.proofs.Search.{belongs}
use Rattle.plain.proofs.plain_nest.PlainNest.add.Goals as goal

pub returns : goal.returns
returns g c = let where_it_belongs = belongs g.K.Key.before c.args.key (vec_items c.args.self.now.keys) in search rules
