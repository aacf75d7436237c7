use Rattle.std.specs.Iterator.Adapters.{enumerate_source, enumerate_count}
use Rattle.nest_model.specs.Meaning.{contents}
use Rattle.nest_model.proofs.Walks.{Written}
use Rattle.nest.specs.Walk.{ahead}
use Rattle.nest.proofs.board.NestBoard.show.Given as goal

-- the keys up to the place were written, and the others are still ahead of the walk
abbrev pub invariant-loop-place : goal.invariant-loop-place
invariant-loop-place g l =
    (goal.iterator-loop-place g).can_next l.place-iterator × (goal.iterator-loop-place g).is_finite l.place-iterator ×
    Written (contents l.self) l.initial.list l.list (ahead (enumerate_source l.place-iterator)) (enumerate_count l.place-iterator)
