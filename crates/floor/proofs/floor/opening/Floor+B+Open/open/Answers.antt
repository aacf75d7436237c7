-- A floor just opened fits, and the law of every list of calls holds of it.
use Rattle.floor_model.proofs.Fitting.{opened_fits}
use Rattle.floor_model.proofs.Lawful.{lawful}
use Rattle.floor.proofs.floor.opening.Floor+B+Open.open.Goals as goal

pub returns-clause-fits : goal.returns-clause-fits
returns-clause-fits g c =
    let b = g.B.Board in
    λ ok free. opened_fits b.means b.sound (b.model c.args.board) c.args.limit ok free

pub returns-clause-law : goal.returns-clause-law
returns-clause-law g c =
    let b = g.B.Board in
    λ ok fresh ledger room. lawful b.plain b.steps b.means b.sound g.met.B.Board.laws (b.model c.args.board) c.args.limit ledger ok fresh room
