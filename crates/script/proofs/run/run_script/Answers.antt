-- A script runs as the kind of floor that its first line opens does, and one without lines has no such line.
use Rattle.std.proofs.Common.{◌≡◌, [], Ok, string_bytes, sym, ap, ◌∙◌, subst}
use Rattle.lex.specs.Lines.{lines_of, first_of, after_first}
use Rattle.forms_model.specs.Openings.{line_opening}
use Rattle.forms_model.specs.declared.opening.Kind.TheVariants.{Cutting, Pattern}
use Rattle.script_model.specs.Run.{then, faulted}
use Rattle.script.proofs.Ends.{no_script, no_script_day, kind_day}
use Rattle.script.proofs.run.run_script.Goals as goal

pub returns-in_default-clause-ran : goal.returns-in_default-clause-ran
returns-in_default-clause-ran c =
    let none : lines_of c.args.script.now ≡ [] = subst (λ bytes. lines_of bytes ≡ []) c.new-lines.ensures.rest c.in_default.ensures.steps.0 in
    ap (then (string_bytes c.args.out.now)) (ap faulted c.no_form.ensures ∙ sym (no_script c.args.script.now none))

pub returns-in_default-clause-day : goal.returns-in_default-clause-day
returns-in_default-clause-day c =
    no_script_day c.args.script.now (subst (λ bytes. lines_of bytes ≡ []) c.new-lines.ensures.rest c.in_default.ensures.steps.0)

pub returns-in-Cutting-clause-day : goal.returns-in-Cutting-clause-day
returns-in-Cutting-clause-day c =
    let read = c.in-Some.ensures.steps in
    let script = c.args.script.now in
    let line = c.in-Some.first in
    let opened : line_opening 1 line.bytes.now ≡ Ok c.in_ok-opening.opening =
    subst (λ n. line_opening n line.bytes.now ≡ Ok c.in_ok-opening.opening) (read.number ∙ c.new-lines.ensures.number) c.in_ok-opening.ensures in
    kind_day Cutting script line.bytes.now c.next.new.self.rest.now (string_bytes c.args.out.now) (string_bytes c.run_floor.new.out)
    c.in_ok-opening.opening c.run_floor.result c.if-script-gt-MOST_BYTES.false
    (read.bytes ∙ ap first_of c.new-lines.ensures.rest) (read.rest ∙ ap after_first c.new-lines.ensures.rest) opened c.in-Cutting.is c.run_floor.ensures.day

pub returns-in-Pattern-clause-day : goal.returns-in-Pattern-clause-day
returns-in-Pattern-clause-day c =
    let read = c.in-Some.ensures.steps in
    let script = c.args.script.now in
    let line = c.in-Some.first in
    let opened : line_opening 1 line.bytes.now ≡ Ok c.in_ok-opening.opening =
    subst (λ n. line_opening n line.bytes.now ≡ Ok c.in_ok-opening.opening) (read.number ∙ c.new-lines.ensures.number) c.in_ok-opening.ensures in
    kind_day Pattern script line.bytes.now c.next.new.self.rest.now (string_bytes c.args.out.now) (string_bytes c.run_floor-in-Pattern.new.out)
    c.in_ok-opening.opening c.run_floor-in-Pattern.result c.if-script-gt-MOST_BYTES.false
    (read.bytes ∙ ap first_of c.new-lines.ensures.rest) (read.rest ∙ ap after_first c.new-lines.ensures.rest) opened c.in-Pattern.is c.run_floor-in-Pattern.ensures.day
