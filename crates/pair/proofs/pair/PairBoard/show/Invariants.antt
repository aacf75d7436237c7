-- the items up to this place are written over the front of the list
use Rattle.std.proofs.Common.{◌≡◌, take}
use Rattle.plain_model.specs.Pair.{listed}
use Rattle.boards.specs.Board.{over}
use Rattle.pair.proofs.pair.PairBoard.show.Given as goal

abbrev pub invariant-loop-place : goal.invariant-loop-place
invariant-loop-place g l =
    let f = g.F.Board in
    let s = g.S.Board in
    l.list ≡ over (take l.place (listed f.plain s.plain (f.means.contents (f.model l.self.first), s.means.contents (s.model l.self.second)))) l.initial.list
