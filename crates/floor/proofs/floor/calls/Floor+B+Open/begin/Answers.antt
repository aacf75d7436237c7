use Rattle.std.proofs.Common.{◌≡◌, set, sym, subst, rules}
use Rattle.floor_model.specs.Floor.{Floor, Fits, start, start_refusal}
use Rattle.floor_model.proofs.Calls.{passed}
use Rattle.floor_model.proofs.Fitting.{start_fits}
use Rattle.floor.specs.Model.{floor_of}
use Rattle.floor.proofs.floor.calls.Floor+B+Open.begin.Goals as goal

pub returns-clause-fits : goal.returns-clause-fits
returns-clause-fits g c =
    let b = g.B.Board in
    let f : Floor b.Model = floor_of b.model c.args.self.now in
    let p = c.args.station in
    let o = c.args.op.now in
    let after : Floor b.Model = record { board = b.model c.begin.new.self; limit = f.limit; written = f.written; turns = set f.turns p c.saturating_add.result } in
    λ passes k.
    let none = passed (start_refusal b.means f p o) passes in
    let left : after ≡ (start b.steps b.means f p o).0 = search rules in
    subst (Fits b.means b.sound) (sym left) (start_fits b.plain b.steps b.means b.sound g.met.B.Board.laws f k p o)
