use Rattle.std.proofs.Common.{◌≡◌, ◌+◌, ◌≤◌, ◌++◌, length, take, drop}
use Rattle.std.specs.Iterator.Adapters.{enumerate_source, enumerate_count}
use Rattle.boards.specs.Board.{over}
use Rattle.line_model.specs.Meaning.{contents}
use Rattle.line.proofs.board.LineBoard.show.Given as goal

-- what was written and what is left give the whole, and there is room for what is left
abbrev pub invariant-loop-place : goal.invariant-loop-place
invariant-loop-place g l =
    record {
      next : (goal.iterator-loop-place g).can_next l.place-iterator;
      ends : (goal.iterator-loop-place g).is_finite l.place-iterator;
      fits : enumerate_count l.place-iterator + length (enumerate_source l.place-iterator) ≤ length l.list;
      whole : take (enumerate_count l.place-iterator) l.list ++ over (enumerate_source l.place-iterator) (drop (enumerate_count l.place-iterator) l.list)
          ≡ over (contents l.self) l.initial.list;
    }
