-- What a nest's model means.
use Rattle.std.specs.Prelude.{ℕ, ◌+◌, ◌*◌, Bool, List, length}
use Rattle.boards.specs.Board.{Meaning}
use Rattle.plain_model.specs.declared.nest_op.NestOp.{NestOp}
use Rattle.plain_model.specs.declared.nest_op.NestAnswer.{NestAnswer}
use Rattle.plain_model.specs.Nest.{key_of}
use Rattle.nest_model.specs.declared.work.Work.{Work}
use Rattle.nest_model.specs.declared.work.Work.TheVariants.{Free, Waiting, Ready}
use Rattle.nest_model.specs.Cells.{front, cell_at, key_at}
use Rattle.nest_model.specs.Model.{NestModel, work_at, station_of, space}
use Rattle.nest_model.specs.Chain.{listing}
use Rattle.nest_model.specs.Live.{live, remaining}

module _ {K : Type 0} where
  -- the chain has at most all nodes
  abbrev pub contents : NestModel K → List K
  contents m = listing (cell_at m.nodes) (key_at m.nodes) (m.size + 2) front

  module _ (before : K → K → Bool) where
    abbrev pub work_distance : NestModel K → Work K → ℕ
    work_distance m Free = 0
    work_distance m (Waiting w) = remaining before (cell_at m.nodes) (key_at m.nodes) m.size (key_of w.op) (live w.phase w.registers)
    work_distance m (Ready o a r) = 0

    abbrev pub means : Meaning (NestModel K) (List K) (NestOp K) NestAnswer
    means = record {
      stations = λ m. length m.works;
      bound = λ m. 3 * m.size + 7;
      contents = contents;
      station = λ m p. station_of (work_at m.works p);
      distance = λ m p. work_distance m (work_at m.works p);
      space = space;
    }
