-- the number of those passed so far
use Rattle.std.proofs.Common.{◌≡◌, ◌-◌, ◌≤◌}
use Rattle.boards.specs.Board.{uncounted_to}
use Rattle.boards.proofs.board.Board.uncounted.Given as goal

abbrev pub invariant-loop-station : goal.invariant-loop-station
invariant-loop-station g l =
    (l.number ≤ l.station - 1) × (l.number ≡ uncounted_to g.Self.Board.means (g.Self.Board.model l.self) (l.station - 1))
