-- The name and the items so far are printed.
use Rattle.std.proofs.Common.{◌≡◌, ◌++◌, drop, string_bytes, codes}
use Rattle.script_model.specs.Report.{joined, after_space}
use Rattle.report.proofs.lists.put_list.Given as goal

abbrev pub invariant-loop-item : goal.invariant-loop-item
invariant-loop-item g l =
    string_bytes l.out ++ joined (after_space g.T.Text.bytes) (drop l.item-index l.items)
    ≡ (string_bytes l.fn.out ++ (codes "(" ++ l.name)) ++ joined (after_space g.T.Text.bytes) l.items
