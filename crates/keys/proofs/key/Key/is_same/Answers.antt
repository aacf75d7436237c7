-- What is the same compares as equal.
use Rattle.std.proofs.Common.{rules}
use Rattle.keys.proofs.key.Key.is_same.Goals as goal

pub returns : goal.returns
returns g c =
    let e = g.met.Self.Key.agrees c.args.self.now c.args.other.now c.cmp.result c.cmp.ensures in
    search rules
