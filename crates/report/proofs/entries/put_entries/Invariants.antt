-- The lines so far are printed.
use Rattle.std.proofs.Common.{◌≡◌, ◌++◌, drop, string_bytes}
use Rattle.script_model.specs.Report.{joined, on_line, entry_text}
use Rattle.report.proofs.entries.put_entries.Given as goal

abbrev pub invariant-loop-line : goal.invariant-loop-line
invariant-loop-line g l =
    string_bytes l.out ++ joined (on_line (entry_text g.O.Text.bytes g.R.Text.bytes)) (drop l.line-index l.lines)
    ≡ string_bytes l.fn.out ++ joined (on_line (entry_text g.O.Text.bytes g.R.Text.bytes)) l.lines
