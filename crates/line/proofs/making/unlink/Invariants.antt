use Rattle.std.proofs.Common.{◌≡◌, ◌++◌, map, take, drop, None}
use Rattle.line_model.specs.Nodes.{toward}
use Rattle.line.proofs.making.unlink.Given as goal

abbrev pub invariant-loop-node : goal.invariant-loop-node
invariant-loop-node g l = l.nodes ≡ map (toward None) (take l.node-index l.initial.nodes) ++ drop l.node-index l.initial.nodes
