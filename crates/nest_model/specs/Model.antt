-- The nest's model, and its calls as functions on it.
use Rattle.std.specs.Prelude.{ℕ, zero, suc, ◌+◌, Bool, true, cond, ◌&&◌, List, length, Some, None, Option, nat_le, nat_lt, slice_index_or, slice_set}
use Rattle.boards.specs.Board.{Steps, is_free}
use Rattle.boards.specs.declared.outcome.Outcome.{Outcome}
use Rattle.boards.specs.declared.outcome.Outcome.TheVariants as told
use Rattle.boards.specs.declared.station.Station.{Station}
use Rattle.boards.specs.declared.station.Station.TheVariants as station
use Rattle.plain_model.specs.declared.nest_op.NestOp.{NestOp}
use Rattle.plain_model.specs.declared.nest_op.NestOp.TheVariants.{Add, Drop, Find}
use Rattle.plain_model.specs.declared.nest_op.NestAnswer.{NestAnswer}
use Rattle.nest_model.specs.declared.node.Node.{Node}
use Rattle.nest_model.specs.declared.phase.Phase.{Phase}
use Rattle.nest_model.specs.declared.phase.Phase.TheVariants.{N1}
use Rattle.nest_model.specs.declared.registers.Registers.{Registers}
use Rattle.std.specs.declared.ops.ControlFlow.TheVariants.{Continue, Break}
use Rattle.nest_model.specs.declared.work.Work.{Work}
use Rattle.nest_model.specs.declared.work.Work.TheVariants.{Free, Waiting, Ready}
use Rattle.nest_model.specs.Cells.{link, cell_at}
use Rattle.nest_model.specs.Table.{Step, unset, readings, touched}

-- `size` nodes for keys, of which the first `taken` were taken by adds; a node table of these and the two ends; the stations
pub record NestModel (K : Type 0) : Type 0 where
  pub size : ℕ
  pub taken : ℕ
  pub nodes : List (Node K)
  pub works : List (Work K)

-- what a touch tells
abbrev pub tells : Step → Outcome × Option NestAnswer
tells (Continue ph) = (told.Going, None)
tells (Break a) = (told.CountedReady, Some a)

module _ {K : Type 0} where
  -- the work of a station whose operation has no answer yet
  abbrev pub waiting : NestOp K → Option ℕ → Phase → Registers → Work K
  waiting o own ph r = Waiting (record { op = o; own = own; phase = ph; registers = r })

  -- stations are numbered from 1, and one that does not exist is free
  abbrev pub work_at : List (Work K) → ℕ → Work K
  work_at ws zero = Free
  work_at ws (suc i) = slice_index_or ws i Free

  abbrev pub put_at : List (Work K) → ℕ → Work K → List (Work K)
  put_at ws zero w = ws
  put_at ws (suc i) w = slice_set ws i w

  -- other nodes
  abbrev pub nodes_of : NestModel K → List (Node K) → NestModel K
  nodes_of m ns = record { size = m.size; taken = m.taken; nodes = ns; works = m.works }

  -- other stations
  abbrev pub works_of : NestModel K → List (Work K) → NestModel K
  works_of m ws = record { size = m.size; taken = m.taken; nodes = m.nodes; works = ws }

  -- other nodes, and other work at a station
  abbrev pub with : NestModel K → List (Node K) → ℕ → Work K → NestModel K
  with m ns p w = record { size = m.size; taken = m.taken; nodes = ns; works = put_at m.works p w }

  abbrev pub station_of : Work K → Station (NestOp K) NestAnswer
  station_of Free = station.Free
  station_of (Waiting w) = station.Uncounted w.op
  station_of (Ready o a r) = station.Ready o a

  -- only an add takes a node
  abbrev pub space : NestModel K → NestOp K → Bool
  space m (Add k) = nat_lt m.taken m.size
  space m (Drop k) = true
  space m (Find k) = true

  abbrev pub may_begin : NestModel K → ℕ → NestOp K → Bool
  may_begin m p o = (nat_le 1 p && nat_le p (length m.works)) && (is_free (station_of (work_at m.works p)) && space m o)

  -- an add takes the next unused node, with its key and an unmarked cell without next
  abbrev pub own_node : NestModel K → NestOp K → Option ℕ
  own_node m (Add k) = Some (m.taken + 2)
  own_node m (Drop k) = None
  own_node m (Find k) = None

  abbrev pub reserved : NestModel K → NestOp K → NestModel K
  reserved m (Add k) = record {
    size = m.size;
    taken = m.taken + 1;
    nodes = slice_set m.nodes (m.taken + 2) (record { key = k; cell = link None });
    works = m.works;
  }
  reserved m (Drop k) = m
  reserved m (Find k) = m

  -- an operation begins at N1 with its registers unset
  abbrev pub enter : NestModel K → ℕ → NestOp K → NestModel K
  enter m p o = with (reserved m o) (reserved m o).nodes p (waiting o (own_node m o) N1 unset)

  abbrev pub begin : NestModel K → ℕ → NestOp K → NestModel K × Bool
  begin m p o = (cond (may_begin m p o) (enter m p o) m, may_begin m p o)

  -- the station's work after a touch
  abbrev pub stepped : NestOp K → Option ℕ → Registers → Step → Work K
  stepped o own r (Continue ph) = waiting o own ph r
  stepped o own r (Break a) = Ready o a r

  abbrev pub settled : NestModel K → ℕ → NestOp K → Option ℕ → Registers → List (Node K) × Step → NestModel K × (Outcome × Option NestAnswer)
  settled m p o own r t = (with m t.0 p (stepped o own r t.1), tells t.1)

  abbrev pub leave : NestModel K → ℕ → Work K → NestModel K
  leave m p Free = m
  leave m p (Waiting w) = m
  leave m p (Ready o a r) = with m m.nodes p Free

  abbrev pub release : NestModel K → ℕ → NestModel K
  release m p = leave m p (work_at m.works p)

  module _ (before : K → K → Bool) where
    abbrev pub act : NestModel K → ℕ → Work K → NestModel K × (Outcome × Option NestAnswer)
    act m p Free = (m, (told.Idle, None))
    act m p (Ready o a r) = (m, (told.Idle, None))
    act m p (Waiting w) =
        settled m p w.op w.own (readings w.phase w.registers (cell_at m.nodes)) (touched before w.op w.own w.phase w.registers m.nodes)

    abbrev pub touch : NestModel K → ℕ → NestModel K × (Outcome × Option NestAnswer)
    touch m p = act m p (work_at m.works p)

    abbrev pub steps : Steps (NestModel K) (NestOp K) NestAnswer
    steps = record { begin = begin; touch = touch; release = release }
