-- The key is in the list where the search finds it.
use Rattle.std.proofs.Common.{vec_items}
use Rattle.plain.proofs.Search.{is_there}
use Rattle.plain.proofs.plain_nest.PlainNest.holds.Goals as goal

pub returns : goal.returns
returns g c = let there = is_there g.K.Key.before c.args.key.now (vec_items c.args.self.now.keys) in cc
