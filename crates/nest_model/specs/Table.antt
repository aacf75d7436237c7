-- The touch table: what one touch of a waiting station does to the nodes, to the registers and to the station.
use Rattle.std.specs.Prelude.{ℕ, Bool, true, false, cond, not, ◌&&◌, List, Some, None, Option}
use Rattle.std.specs.declared.ops.ControlFlow.{ControlFlow}
use Rattle.std.specs.declared.ops.ControlFlow.TheVariants.{Continue, Break}
use Rattle.plain_model.specs.declared.nest_op.NestOp.{NestOp}
use Rattle.plain_model.specs.declared.nest_op.NestOp.TheVariants.{Add, Drop, Find}
use Rattle.plain_model.specs.declared.nest_op.NestAnswer.{NestAnswer}
use Rattle.plain_model.specs.declared.nest_op.NestAnswer.TheVariants.{Added, There, Dropped, Missing, Yes, No}
use Rattle.plain_model.specs.Nest.{key_of}
use Rattle.nest_model.specs.declared.cell.Cell.{Cell}
use Rattle.nest_model.specs.declared.node.Node.{Node}
use Rattle.nest_model.specs.declared.phase.Phase.{Phase}
use Rattle.nest_model.specs.declared.phase.Phase.TheVariants.{N1, N2, N3, N4, N5, N6}
use Rattle.nest_model.specs.declared.registers.Registers.{Registers}
use Rattle.nest_model.specs.Ends.{is_after, is_key}
use Rattle.nest_model.specs.Cells.{front, node, link, gone, cell_at, key_at, written, holds, exchanged}

-- what a touch leaves to do: the operation goes on with another touch, or it has its answer
abbrev pub Step : Type 0
Step = ControlFlow NestAnswer Phase

-- all registers unset
abbrev pub unset : Registers
unset = record { here = None; next = None; mark = None; keep = None; keptnext = None }

-- the station stands at `here` and has read its cell
abbrev pub read : Registers → Option ℕ → Cell → Registers
read r here d = record { here = here; next = d.next; mark = Some d.mark; keep = r.keep; keptnext = r.keptnext }

-- the first part of rule W: an unmarked node is kept, with its next
abbrev pub kept : Registers → Option ℕ → Cell → Registers
kept r here d = record {
  here = here;
  next = d.next;
  mark = Some d.mark;
  keep = cond d.mark r.keep here;
  keptnext = cond d.mark r.keptnext d.next;
}

-- the registers after the cell was read
abbrev pub readings : Phase → Registers → (ℕ → Cell) → Registers
readings N1 r cell = kept r (Some front) (cell front)
readings N2 r cell = kept r r.next (cell (node r.next))
readings N3 r cell = read r r.next (cell (node r.next))
readings N4 r cell = r
readings N5 r cell = r
readings N6 r cell = r

abbrev pub is_marked : Option Bool → Bool
is_marked None = false
is_marked (Some b) = b

module _ {K : Type 0} (before : K → K → Bool) where
  -- whether the key's place is between `here` and `next`
  abbrev pub is_place : List (Node K) → Registers → K → Bool
  is_place ns r k = not (is_after before k (key_at ns (node r.here))) && is_after before k (key_at ns (node r.next))

  -- rule F, by whether the key of `here` is the operation's
  abbrev pub decided : NestOp K → Option ℕ → Bool → Registers → List (Node K) → List (Node K) × Step
  decided (Find k) own found r ns = (ns, Break (cond found Yes No))
  decided (Add k) own true r ns = (ns, Break There)
  decided (Add k) own false r ns = (written ns (node own) (link r.next), Continue N5)
  decided (Drop k) own true r ns = (ns, Continue N6)
  decided (Drop k) own false r ns = (ns, Break Missing)

  -- the second part of rule W, by whether the place is here, and by the mark
  abbrev pub walked : NestOp K → Option ℕ → Bool → Bool → Registers → List (Node K) → List (Node K) × Step
  walked o own true false r ns = decided o own (is_key before (key_of o) (key_at ns (node r.here))) r ns
  walked o own true true r ns = (ns, Continue N3)
  walked o own false mark r ns = (ns, Continue N2)

  -- what follows once the registers are set, by the phase and the mark of the cell that was read
  abbrev pub followed : NestOp K → Option ℕ → Phase → Bool → Registers → List (Node K) → List (Node K) × Step
  followed o own N1 mark r ns = walked o own (is_place ns r (key_of o)) mark r ns
  followed o own N2 mark r ns = walked o own (is_place ns r (key_of o)) mark r ns
  followed o own N3 mark r ns = (ns, Continue (cond mark N3 N4))
  followed o own N4 mark r ns = (exchanged ns r.keep (link r.keptnext) (link r.here), Continue N1)
  followed o own N5 mark r ns =
      (exchanged ns r.here (link r.next) (link own), cond (holds ns r.here (link r.next)) (Break Added) (Continue N1))
  followed o own N6 mark r ns =
      (exchanged ns r.here (link r.next) (gone r.next), cond (holds ns r.here (link r.next)) (Break Dropped) (Continue N1))

  -- one touch: the nodes afterwards, and what it leaves to do; the registers afterwards are the readings
  abbrev pub touched : NestOp K → Option ℕ → Phase → Registers → List (Node K) → List (Node K) × Step
  touched o own ph r ns = followed o own ph (is_marked (readings ph r (cell_at ns)).mark) (readings ph r (cell_at ns)) ns
