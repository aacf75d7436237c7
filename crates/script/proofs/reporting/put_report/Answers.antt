-- The parts of the report are printed one after another.
use Rattle.std.proofs.Common.{min, length, take, string_bytes, ap, ◌∙◌}
use Rattle.std.proofs.lemmas.Result.{err_from_is_err_and, on_ok_weaker}
use Rattle.nest_model.specs.Meaning as nest_meaning
use Rattle.line_model.specs.Meaning as line_meaning
use Rattle.script_model.proofs.Joined.{report_parts}
use Rattle.script.specs.Script.{op_text, answer_text, shop_report}
use Rattle.script.proofs.reporting.put_report.Goals as goal

pub returns-in_err-put_contents : goal.returns-in_err-put_contents
returns-in_err-put_contents g c =
    let p = err_from_is_err_and c.from_residual.result c.from_residual.ensures.1 in rw p.1 tt

pub returns-in_err-put_contents-2 : goal.returns-in_err-put_contents-2
returns-in_err-put_contents-2 g c =
    let p = err_from_is_err_and c.from_residual-in_err-put_contents-2.result c.from_residual-in_err-put_contents-2.ensures.1 in rw p.1 tt

pub returns : goal.returns
unfolding shop_report
returns g c =
    let key = g.K.Text.bytes in
    let element = g.E.Text.bytes in
    let board = c.args.floor.now.board in
    on_ok_weaker c.put_entries.result
    (λ printed. report_parts key element (op_text key element) (answer_text element)
    (string_bytes c.args.out.now) (string_bytes c.put_contents.new.out) (string_bytes c.put_contents-2.new.out) (string_bytes c.put_entries.new.out)
    (nest_meaning.contents board.first) (nest_meaning.contents c.first.result.now)
    (line_meaning.contents board.second) (line_meaning.contents c.second.result.now)
    c.args.ledger.now c.split_at.result.0.now c.args.floor.now.written
    c.in_ok-put_contents.ensures
    (ap (λ n. nest_meaning.contents n) (c.first.ensures ∙ ap (λ b. b.first) c.board.ensures))
    c.in_ok-put_contents-2.ensures
    (ap (λ l. line_meaning.contents l) (c.second.ensures ∙ ap (λ b. b.second) c.board-2.ensures))
    printed
    (c.split_at.ensures.front ∙ ap (λ k. take k c.args.ledger.now) (c.min.ensures ∙ ap (λ w. min w (length c.args.ledger.now)) c.written.ensures)))
    c.put_entries.ensures
