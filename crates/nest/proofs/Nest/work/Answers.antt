use Rattle.std.proofs.Common.{Option, ap, ◌∙◌, unwrap_or}
use Rattle.nest_model.specs.declared.work.Work.{Work}
use Rattle.nest_model.specs.declared.work.Work.TheVariants.{Free}
use Rattle.nest.proofs.Reading.{item_nth, work_read}
use Rattle.nest.proofs.Nest.work.Goals as goal

pub returns : goal.returns
returns g c =
    let ws = c.self.inside.works.items in
    rw (← c.self.view_is)
    (c.unwrap_or.ensures ∙
    ap (λ (o : Option (Work g.row.K.Denot)). unwrap_or o Free) (c.copied.ensures ∙ item_nth ws _ _ c.get.result c.deref.ensures.value c.get.ensures.lookup) ∙
    work_read ws c.args.station c.if-station-eq0.false)
