use Rattle.std.proofs.Common.{◌-◌, Option, sym, ap, ◌∙◌}
use Rattle.nest_model.specs.Cells.{cell_at, key_at}
use Rattle.nest_model.specs.Chain.{listing, enlist}
use Rattle.nest_model.proofs.Walks.{passed}
use Rattle.nest.proofs.chain.KeysIterator.next.Goals as goal

pub loop-self-preserved : goal.loop-self-preserved
loop-self-preserved g c =
    let w = c.loop-self.self in let cell = cell_at w.nest.now.nodes in let key = key_at w.nest.now.nodes in
    sym
    (passed cell key w.turns w.node c.listed.result c.after-self.result c.loop-self-test.true c.if-self-ne-BACK.true c.listed.ensures c.after-self.ensures ∙
    ap (λ (o : Option g.row.K.Denot). enlist o (listing cell key (w.turns - 1) c.after-self.result)) c.in_default.is) ∙
    c.loop-self.invariant
