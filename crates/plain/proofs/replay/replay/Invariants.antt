-- The machine went through the operations so far, and their answers are kept.
use Rattle.std.proofs.Common.{◌≡◌, take, vec_items}
use Rattle.plain_model.specs.Machine.{replay}
use Rattle.plain.proofs.replay.replay.Given as goal

abbrev pub invariant-loop-op : goal.invariant-loop-op
invariant-loop-op g l =
    (g.M.PlainMachine.state l.machine, vec_items l.answers) ≡ replay g.M.PlainMachine.machine (take l.op-index l.ops) (g.M.PlainMachine.state l.initial.machine)
