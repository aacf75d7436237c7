-- What is printed so far and what the lines that are left print are together what the lines print.
use Rattle.std.proofs.Common.{◌≡◌, ℕ, List, string_bytes}
use Rattle.lex.specs.Lines.{lines_of}
use Rattle.forms_model.specs.Operations.{operation_at}
use Rattle.floor_model.specs.Floor.{Fits}
use Rattle.floor_model.specs.History.{State}
use Rattle.floor.specs.Model.{floor_of}
use Rattle.script_model.specs.Run.{then, ran}
use Rattle.script_model.specs.State.{state}
use Rattle.script.proofs.lines.obey_lines.Given as goal

abbrev pub invariant-loop-line : goal.invariant-loop-line
invariant-loop-line g l =
    let b = g.B.Board in
    let at = operation_at g.T.Trade.rules in
    let text = g.B.Answer.Text.bytes in
    Fits b.means b.sound (floor_of b.model l.initial.floor) →
    Fits b.means b.sound (floor_of b.model l.floor) ×
    ((report : State _ _ _ → List ℕ) →
    then (string_bytes l.out) (ran b.steps b.means at text report (state (floor_of b.model l.floor) l.ledger) l.lines.number (lines_of l.lines.rest.now))
    ≡ then (string_bytes l.initial.out) (ran b.steps b.means at text report (state (floor_of b.model l.initial.floor) l.initial.ledger) l.initial.lines.number (lines_of l.initial.lines.rest.now)))
