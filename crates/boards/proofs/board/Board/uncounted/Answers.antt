use Rattle.std.proofs.Common.{◌≡◌, true, false, arith}
use Rattle.boards.specs.Board.{is_uncounted}
use Rattle.boards.proofs.Stations.{uncounted_next}
use Rattle.boards.proofs.board.Board.uncounted.Goals as goal
use Rattle.boards.proofs.board.Board.uncounted.Goals.{then-is_uncounted, else-is_uncounted}

pub loop-station-preserved : goal.loop-station-preserved
loop-station-preserved g c =
    let b = g.Self.Board in
    let m = b.model c.args.self.now in
    let i = c.loop-station.invariant in
    elim c.if-is_uncounted.branch [
      | then-is_uncounted w ↦
          let yes : is_uncounted (b.means.station m c.loop-station.station) ≡ true = cc in
          let e = uncounted_next b.means m c.loop-station.station true (omega arith) yes in
          (omega (arith, w.number-is), omega (arith, w.number-is))
      | else-is_uncounted w ↦
          let no : is_uncounted (b.means.station m c.loop-station.station) ≡ false = cc in
          let e = uncounted_next b.means m c.loop-station.station false (omega arith) no in
          (omega (arith, w.number-is), omega (arith, w.number-is))
    ]
