-- Each turn prints what its line is to print.
use Rattle.std.proofs.Common.{string_bytes, ap}
use Rattle.std.proofs.lemmas.Result.{err_from_is_err_and}
use Rattle.lex.specs.Lines.{lines_of}
use Rattle.forms_model.specs.Operations.{operation_at}
use Rattle.floor.specs.Model.{floor_of}
use Rattle.script_model.specs.State.{state}
use Rattle.script_model.specs.Run.{is_closed}
use Rattle.script_model.proofs.Turns.{ended, went_on, closed, still_open}
use Rattle.script.proofs.Ends.{stopped}
use Rattle.script.proofs.lines.obey_lines.Goals as goal

pub returns-in_err-obey_line-clause-ran : goal.returns-in_err-obey_line-clause-ran
returns-in_err-obey_line-clause-ran g c fits report =
    let b = g.B.Board in
    let p = err_from_is_err_and c.from_residual.result c.from_residual.ensures.1 in
    let so_far = c.loop-line.invariant fits in
    rw (p.1, p.2)
    (stopped b.steps b.means (operation_at g.T.Trade.rules) g.B.Answer.Text.bytes report
    (state (floor_of b.model c.loop-line.floor) c.loop-line.ledger) (state (floor_of b.model c.obey_line.new.floor) c.obey_line.new.ledger)
    c.loop-line.lines c.in-Some.line c.next.new.self
    (string_bytes c.loop-line.out) (string_bytes c.obey_line.new.out) _
    c.in-Some.ensures.steps (so_far.1 report)
    c.in_err-obey_line.field-0.0 (c.in_err-obey_line.ensures.ran so_far.0))

pub returns-in-Closed-clause-ran : goal.returns-in-Closed-clause-ran
returns-in-Closed-clause-ran g c fits report =
    let b = g.B.Board in
    let so_far = c.loop-line.invariant fits in
    let told = c.in_ok-obey_line.ensures.ran so_far.0 in
    closed b.steps b.means (operation_at g.T.Trade.rules) g.B.Answer.Text.bytes report
    (state (floor_of b.model c.loop-line.floor) c.loop-line.ledger)
    c.loop-line.lines c.in-Some.line c.next.new.self c.in-Some.ensures.steps (string_bytes c.loop-line.out) _ (so_far.1 report)
    (state (floor_of b.model c.obey_line.new.floor) c.obey_line.new.ledger) c.in_ok-obey_line.field-0 (string_bytes c.obey_line.new.out)
    told.0 told.1 (ap is_closed c.in-Closed.is)

pub loop-line-preserved : goal.loop-line-preserved
loop-line-preserved g c fits =
    let b = g.B.Board in
    let so_far = c.loop-line.invariant fits in (
      c.obey_line.ensures.fits so_far.0,
      λ report.
          let told = c.in_ok-obey_line.ensures.ran so_far.0 in
          went_on b.steps b.means (operation_at g.T.Trade.rules) g.B.Answer.Text.bytes report
          (state (floor_of b.model c.loop-line.floor) c.loop-line.ledger)
          c.loop-line.lines c.in-Some.line c.next.new.self c.in-Some.ensures.steps (string_bytes c.loop-line.out) _ (so_far.1 report)
          (state (floor_of b.model c.obey_line.new.floor) c.obey_line.new.ledger) c.in_ok-obey_line.field-0 (string_bytes c.obey_line.new.out)
          told.0 told.1 (still_open c.in_ok-obey_line.field-0 c.in_default-2.not-Closed),
    )

pub returns-clause-ran : goal.returns-clause-ran
returns-clause-ran g c fits report =
    let b = g.B.Board in
    ended b.steps b.means (operation_at g.T.Trade.rules) g.B.Answer.Text.bytes report
    (state (floor_of b.model c.loop-line.floor) c.loop-line.ledger) c.loop-line.lines.number (lines_of c.loop-line.lines.rest.now)
    (string_bytes c.loop-line.out) _ c.in_default.ensures.steps.0 ((c.loop-line.invariant fits).1 report)
