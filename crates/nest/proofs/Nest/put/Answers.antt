use Rattle.std.proofs.Common.{sym, ap, subst}
use Rattle.nest_model.specs.Model.{works_of}
use Rattle.nest.specs.View.{model, IsTabled}
use Rattle.nest.proofs.Reading.{put_in, put_past, tabled_put}
use Rattle.nest.proofs.Nest.put.Goals as goal

pub returns-in-Some : goal.returns-in-Some
returns-in-Some g c =
    let m = model c.self.inside in rw (← c.self.view_is) (ap (works_of m) (put_in m.works c.args.station c.args.work c.if-station-gt0.true))

pub returns-in_default : goal.returns-in_default
returns-in_default g c =
    let m = model c.self.inside in rw (← c.self.view_is) (ap (works_of m) (put_past m.works c.args.station c.args.work c.in_default.ensures.item.3))

pub invariant_of-self : goal.invariant_of-self
invariant_of-self g c =
    let m = model c.self.inside in
    subst (λ ws. IsTabled (works_of m ws)) (sym (put_in m.works c.args.station c.args.work c.if-station-gt0.true)) (tabled_put m c.args.station c.args.work c.self.invariant)
