-- A touch as a move over the live registers: what it writes, and where it leaves the station.
use Rattle.std.proofs.Common.{ℕ, Bool, true, false, cond, not, ◌&&◌, Some}
use Rattle.plain_model.specs.declared.nest_op.NestOp.{NestOp}
use Rattle.plain_model.specs.declared.nest_op.NestOp.TheVariants.{Add, Drop, Find}
use Rattle.plain_model.specs.declared.nest_op.NestAnswer.{NestAnswer}
use Rattle.plain_model.specs.declared.nest_op.NestAnswer.TheVariants.{Added, There, Dropped, Missing, Yes, No}
use Rattle.plain_model.specs.Nest.{key_of}
use Rattle.nest_model.specs.declared.cell.Cell.{Cell}
use Rattle.nest_model.specs.Ends.{Extended, Mid, lt, is_key}
use Rattle.nest_model.specs.Cells.{front, link, gone}
use Rattle.nest_model.specs.Chain.{after}
use Rattle.nest_model.specs.Live.{Live, Start, Walk, Skip, Unlink, Insert, Strike, still}

pub data Move : Type 0 where
  -- nothing is written, and the operation goes on
  goes : Live → Move
  -- a node's cell is written, and the operation goes on
  writes : ℕ → Cell → Live → Move
  -- nothing is written, and the operation has its answer
  says : NestAnswer → Move
  -- a node's cell is written, and the operation has its answer
  does : ℕ → Cell → NestAnswer → Move

module _ {K : Type 0} (before : K → K → Bool) where
  -- the rule F
  abbrev pub decide : NestOp K → ℕ → Bool → ℕ → ℕ → Move
  decide (Find k) own true here next = says Yes
  decide (Find k) own false here next = says No
  decide (Add k) own true here next = says There
  decide (Add k) own false here next = writes own (link (Some next)) (Insert here next)
  decide (Drop k) own true here next = goes (Strike here next)
  decide (Drop k) own false here next = says Missing

  module _ (cell : ℕ → Cell) (key : ℕ → Extended K) where
    -- the rule W at the node `here`, by its mark and by whether the key's place is behind it
    abbrev pub look : NestOp K → ℕ → ℕ → ℕ → ℕ → Bool → Bool → Move
    look o own keep keptnext here true true = goes (Skip keep keptnext (after cell here))
    look o own keep keptnext here true false = goes (Walk keep keptnext (after cell here))
    look o own keep keptnext here false true = decide o own (is_key before (key_of o) (key here)) here (after cell here)
    look o own keep keptnext here false false = goes (Walk here (after cell here) (after cell here))

    abbrev pub far : NestOp K → ℕ → Bool
    far o here = not (lt before (Mid (key_of o)) (key here)) && lt before (Mid (key_of o)) (key (after cell here))

    abbrev pub move : NestOp K → ℕ → Live → Move
    move o own Start = look o own front front front (cell front).mark (far o front)
    move o own (Walk keep keptnext next) = look o own keep keptnext next (cell next).mark (far o next)
    move o own (Skip keep keptnext next) =
        cond (cell next).mark (goes (Skip keep keptnext (after cell next))) (goes (Unlink keep keptnext next))
    move o own (Unlink keep keptnext here) = cond (still (cell keep) keptnext) (writes keep (link (Some here)) Start) (goes Start)
    move o own (Insert here next) = cond (still (cell here) next) (does here (link (Some own)) Added) (goes Start)
    move o own (Strike here next) = cond (still (cell here) next) (does here (gone (Some next)) Dropped) (goes Start)
