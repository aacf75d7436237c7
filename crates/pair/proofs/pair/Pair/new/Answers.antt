-- A pair of sound boards whose stations are all free is sound.
use Rattle.pair_model.proofs.PairMaking.{checked_sound}
use Rattle.pair.proofs.pair.Pair.new.Goals as goal

pub returns-clause-sound : goal.returns-clause-sound
returns-clause-sound g c =
    let m : g.F.Board.Model × g.S.Board.Model = (g.F.Board.model c.args.first, g.S.Board.model c.args.second) in
    λ ok ok' free. checked_sound g.met.F.Board.laws g.met.S.Board.laws m ok ok' free
