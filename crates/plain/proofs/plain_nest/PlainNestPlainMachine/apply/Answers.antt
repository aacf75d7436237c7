-- An operation keeps the keys ascending.
use Rattle.std.proofs.Common.{Ok, vec_items, rules}
use Rattle.plain_model.proofs.Nest.{applied_ascending}
use Rattle.plain.proofs.plain_nest.PlainNestPlainMachine.apply.Goals as goal

pub returns-in-Add : goal.returns-in-Add
returns-in-Add g c = record {
  applied = search rules;
  ascends = applied_ascending g.K.Key.before g.met.K.Key.total c.args.op.now (vec_items c.args.self.now.keys) (vec_items c.add.new.self.keys) c.add.result (search rules);
}

pub returns-in-Drop : goal.returns-in-Drop
returns-in-Drop g c = record {
  applied = search rules;
  ascends = applied_ascending g.K.Key.before g.met.K.Key.total c.args.op.now (vec_items c.args.self.now.keys) (vec_items c.remove.new.self.keys) (Ok c.remove.result) (search rules);
}
