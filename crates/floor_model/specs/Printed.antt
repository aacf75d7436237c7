-- How a line of a ledger prints.
use Rattle.std.specs.Prelude.{ℕ, List, ◌++◌, codes, decimal}
use Rattle.floor_model.specs.declared.line.Line.{Line}

-- (entry STATION TURN OP ANSWER)
abbrev pub entry_text : {Op Answer : Type 0} → (Op → List ℕ) → (Answer → List ℕ) → Line Op Answer → List ℕ
entry_text op answer l =
    codes "(entry " ++ (decimal l.station ++ (codes " " ++ (decimal l.turn ++ (codes " " ++ (op l.operation ++ (codes " " ++ (answer l.answer ++ codes ")")))))))
