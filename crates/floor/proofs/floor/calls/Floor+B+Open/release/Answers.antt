use Rattle.std.proofs.Common.{◌≡◌, sym, ap, subst}
use Rattle.floor_model.specs.Floor.{Floor, Fits, with_board}
use Rattle.floor_model.proofs.Fitting.{release_fits}
use Rattle.floor.specs.Model.{floor_of}
use Rattle.floor.proofs.floor.calls.Floor+B+Open.release.Goals as goal

pub returns-clause-fits : goal.returns-clause-fits
returns-clause-fits g c =
    let b = g.B.Board in
    let f : Floor b.Model = floor_of b.model c.args.self.now in
    let p = c.args.station in
    let left : with_board f (b.model c.release.new.self) ≡ with_board f (b.steps.release f.board p) = ap (with_board f) c.release.ensures.left in
    λ k. subst (Fits b.means b.sound) (sym left) (release_fits b.plain b.steps b.means b.sound g.met.B.Board.laws f k p)
