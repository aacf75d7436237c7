use Rattle.std.proofs.Common.{◌≡◌, length, Some, sym, refl, ap, subst}
use Rattle.std.specs.List.{slice_get}
use Rattle.std.proofs.lemmas.Option.{slice_get_read}
use Rattle.nest_model.specs.Model.{nodes_of}
use Rattle.nest_model.proofs.Places.{written_some, written_past}
use Rattle.nest.specs.View.{model, IsTabled}
use Rattle.nest.proofs.Reading.{tabled_written}
use Rattle.nest.proofs.Nest.write.Goals as goal
use Rattle.nest.proofs.Nest.write.Goals.{in-Some, in_default}

pub returns : goal.returns
returns g c =
    let m = model c.self.inside in
    rw (← c.self.view_is)
    (elim c.match-get_mut.branch [
      | in-Some w ↦
          let x = w.in-Some.node.now in
          let e : slice_get m.nodes c.args.n ≡ Some x = slice_get_read m.nodes (length m.nodes) c.args.n x refl w.in-Some.ensures.item.3.0 w.in-Some.ensures.value in
          rw w.self-inside-is (ap (nodes_of m) (sym (written_some m.nodes c.args.n c.args.cell x e)))
      | in_default w ↦ rw w.self-inside-is (ap (nodes_of m) (sym (written_past m.nodes c.args.n c.args.cell w.in_default.ensures.item.3)))
    ])

pub invariant_of-self : goal.invariant_of-self
invariant_of-self g c =
    subst IsTabled (sym (returns g c)) (tabled_written c.args.self.now c.args.n c.args.cell (subst IsTabled c.self.view_is c.self.invariant))
