-- One node more has its next cell none.
use Rattle.std.proofs.Common.{get_or, None, sym, ap, ◌∙◌, arith}
use Rattle.std.proofs.lemmas.List.{get_or_default}
use Rattle.line_model.specs.Nodes.{toward}
use Rattle.line_model.proofs.Listing.{mapped_next, mapped_end}
use Rattle.line_model.specs.Fresh.{unlinked}
use Rattle.line_model.proofs.Fresh.{unlinked_again}
use Rattle.line.proofs.making.unlink.Goals as goal

pub loop-node-preserved : goal.loop-node-preserved
loop-node-preserved g c =
    let x = c.node-item.result in
    mapped_next (toward None) c.args.nodes.now c.loop-node.nodes c.loop-node.node-index (get_or c.loop-node.nodes c.loop-node.node-index x) (omega arith) c.loop-node.invariant
    (get_or_default c.loop-node.nodes c.loop-node.node-index x _ (omega arith))

pub returns-clause-again : goal.returns-clause-again
returns-clause-again g c =
    let e = mapped_end (toward None) c.args.nodes.now c.loop-node.nodes c.loop-node.node-index (omega arith) c.loop-node.invariant in
    e ∙ unlinked_again c.args.nodes.now ∙ ap unlinked (sym e)
