-- A floor with its ledger.
use Rattle.std.specs.Prelude.{List}
use Rattle.floor_model.specs.Floor.{Floor}
use Rattle.floor_model.specs.History.{State}
use Rattle.floor_model.specs.declared.line.Line.{Line}

abbrev pub state : {Model Op Answer : Type 0} → Floor Model → List (Line Op Answer) → State Model Op Answer
state f lines = record { floor = f; ledger = lines }
