-- The faults of a script: their numbers, their places and how they print.
use Rattle.std.specs.Prelude.{ℕ, List, ◌++◌, codes, decimal}
use Rattle.lex.specs.declared.token.Place.{Place}
use Rattle.lex.specs.declared.fault.FaultKind.{FaultKind}
use Rattle.lex.specs.declared.fault.FaultKind.TheVariants.{TooLong, OtherByte, OtherRun, NoForm}
use Rattle.lex.specs.declared.fault.Fault.{Fault}

abbrev pub fault_number : FaultKind → ℕ
fault_number TooLong = 16
fault_number OtherByte = 17
fault_number OtherRun = 18
fault_number NoForm = 19

abbrev pub fault_at : FaultKind → Place → Fault
fault_at kind p = record { kind = kind; place = p }

-- a script that is too long is at fault as a whole
abbrev pub too_long : Fault
too_long = fault_at TooLong (record { line = 1; byte = 1 })

-- a line that is no form is at fault as a whole
abbrev pub no_form : ℕ → Fault
no_form line = fault_at NoForm (record { line = line; byte = 1 })

abbrev pub fault_text : Fault → List ℕ
fault_text f = codes "(fault " ++ (decimal (fault_number f.kind) ++ (codes " " ++ (decimal f.place.line ++ (codes " " ++ (decimal f.place.byte ++ codes ")")))))
