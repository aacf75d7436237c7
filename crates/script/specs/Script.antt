-- What a script prints.
use Rattle.std.specs.Prelude.{◌≡◌, ℕ, ◌≤◌, Bool, cond, List, [], ◌∷◌, length, replicate, Some, None, Ok, Err, codes, Option, Result, nat_lt}
use Rattle.keys.specs.declared.refusal.Refusal.{Refusal}
use Rattle.plain_model.specs.Printed.{nest_op_text, nest_answer_text, line_op_text, line_answer_text, side_text}
use Rattle.floor_model.specs.Floor.{Floor, Fits, opened, written_lines}
use Rattle.floor_model.specs.History.{State}
use Rattle.floor_model.specs.Law.{Law}
use Rattle.lex.specs.Faults.{too_long}
use Rattle.lex.specs.Lines.{lines_of, first_of, after_first}
use Rattle.lex.specs.declared.fault.Fault.{Fault}
use Rattle.lex.specs.declared.fault.Stop.{Stop}
use Rattle.lex.specs.declared.fault.Stop.TheVariants.{Faulty, NoMemory}
use Rattle.forms_model.specs.Cutting.{cutting_rules}
use Rattle.forms_model.specs.Openings.{line_opening}
use Rattle.forms_model.specs.Operations.{operation_at}
use Rattle.forms_model.specs.Pattern.{pattern_rules}
use Rattle.forms_model.specs.Rules.{Rules}
use Rattle.forms_model.specs.declared.opening.Kind.{Kind}
use Rattle.forms_model.specs.declared.opening.Kind.TheVariants as kind
use Rattle.forms_model.specs.declared.opening.Opening.{Opening}
use Rattle.shop.specs.Shop.{ShopOp, ShopAnswer, ShopModel, shop_refusal, shop_board, blank_line, shop_plain, shop_means, shop_steps, ShopSound}
use Rattle.script_model.specs.Day.{LawfulRun}
use Rattle.script_model.specs.Replies.{line_of, refusal_text}
use Rattle.script_model.specs.Report.{report_text}
use Rattle.script_model.specs.Run.{Printed, then, faulted, line_fault, ran}
use Rattle.script_model.specs.declared.ending.Ending.{Ending}
use Rattle.script_model.specs.declared.ending.Ending.TheVariants.{NotOpened}

abbrev pub op_text : {K E : Type 0} → (K → List ℕ) → (E → List ℕ) → ShopOp K E → List ℕ
op_text key element = side_text (nest_op_text key) (line_op_text element)

abbrev pub answer_text : {E : Type 0} → (E → List ℕ) → ShopAnswer E → List ℕ
answer_text element = side_text nest_answer_text (line_answer_text element)

-- the report of a shop's floor with its ledger
unfoldable pub shop_report : {K E : Type 0} → (K → K → Bool) → (K → List ℕ) → (E → List ℕ) → State (ShopModel K E) (ShopOp K E) (ShopAnswer E) → List ℕ
shop_report {E = E} before key element s =
    let held = (shop_means E before).contents s.floor.board in
    report_text key element (op_text key element) (answer_text element) held.0 held.1 (written_lines s.floor s.ledger)

module _ {K E : Type 0} (rules : Rules K E) where
  -- the invariant of a shop's floor
  abbrev pub ShopFits : Floor (ShopModel K E) → Type 0
  ShopFits = Fits (shop_means E rules.before) (ShopSound E rules.before)

  -- what the lines after the first print, on a floor with its ledger
  abbrev pub shop_ran : State (ShopModel K E) (ShopOp K E) (ShopAnswer E) → List ℕ → Printed
  shop_ran s rest =
      ran (shop_steps E rules.before) (shop_means E rules.before) (operation_at rules)
      (answer_text rules.element_text) (shop_report rules.before rules.key_text rules.element_text) s 2 (lines_of rest)

  -- the floor of an opening, just opened, with its ledger
  abbrev pub opened_shop : Opening → State (ShopModel K E) (ShopOp K E) (ShopAnswer E)
  opened_shop o = record {
    floor = opened (shop_board o.stations o.nodes o.line_nodes rules.blank_key rules.blank_element) o.limit;
    ledger = replicate o.limit blank_line;
  }

  abbrev pub begun_unless : Option Refusal → Opening → List ℕ → Printed
  begun_unless None o rest = then (line_of (codes "(opened)")) (shop_ran (opened_shop o) rest)
  begun_unless (Some reason) o rest = (line_of (refusal_text reason), NotOpened reason)

  -- what a script prints from its floor form on: a floor form that is sent back ends the run
  abbrev pub begun : Opening → List ℕ → Printed
  begun o rest = begun_unless (shop_refusal o.stations o.limit o.nodes o.line_nodes) o rest

  -- the law of every list of calls on that floor
  abbrev pub ShopLaw : Opening → Type 0
  ShopLaw o = Law (shop_plain E rules.before) (shop_steps E rules.before) (shop_means E rules.before) (opened_shop o)

  -- A day on the floor of an opening: what is printed after `(opened)` is the replies of a list of calls on that floor and then the end of the run, and
  -- the law of the floor holds after these calls.
  abbrev pub Day : Opening → Printed → Type 0
  Day o printed = (rest : Printed) × (printed ≡ then (line_of (codes "(opened)")) rest) ×
      LawfulRun (shop_plain E rules.before) (shop_steps E rules.before) (shop_means E rules.before) (answer_text rules.element_text)
      (shop_report rules.before rules.key_text rules.element_text) o.limit (opened_shop o) rest

abbrev pub by_kind : Kind → Opening → List ℕ → Printed
by_kind kind.Cutting o rest = begun cutting_rules o rest
by_kind kind.Pattern o rest = begun pattern_rules o rest

abbrev pub from_opening : Result Opening Fault → List ℕ → Printed
from_opening (Err fault) rest = faulted fault
from_opening (Ok o) rest = by_kind o.kind o rest

-- What a script prints, and how its run ends: one that is too long is at fault before all else, and its first line is a floor form.
abbrev pub script_run : List ℕ → Printed
script_run bytes = cond (nat_lt 32768 (length bytes)) (faulted too_long) (from_opening (line_opening 1 (first_of bytes)) (after_first bytes))

abbrev pub DayOf : Kind → Opening → Printed → Type 0
DayOf kind.Cutting o printed = Day cutting_rules o printed
DayOf kind.Pattern o printed = Day pattern_rules o printed

-- A script that is not too long, and whose first line opens a floor, runs a day on it.
abbrev pub RunsADay : List ℕ → Printed → Type 0
RunsADay bytes printed = (o : Opening) → length bytes ≤ 32768 → line_opening 1 (first_of bytes) ≡ Ok o →
    shop_refusal o.stations o.limit o.nodes o.line_nodes ≡ None → DayOf o.kind o printed

-- a statement, unless memory was lacking
abbrev pub UnlessMemory : Result Ending Stop → Type 0 → Type 0
UnlessMemory (Ok ending) P = P
UnlessMemory (Err (Faulty fault)) P = P
UnlessMemory (Err NoMemory) P = Unit {0}

-- What a part of a run told and printed, where it is to print `said`: what is printed by then and a fault that was met are that. Memory may be lacking.
abbrev pub PartRan : Result Ending Stop → Printed → (was now : List ℕ) → Type 0
PartRan (Ok ending) said was now = (now, ending) ≡ then was said
PartRan (Err (Faulty fault)) said was now = then now (faulted fault) ≡ then was said
PartRan (Err NoMemory) said was now = Unit {0}

-- What is told of the lines after a close that was taken: there is none, or the first is at fault. Memory may be lacking.
abbrev pub NoLine : Result (Unit {0}) Stop → ℕ → List (List ℕ) → Type 0
NoLine (Ok _) number lines = lines ≡ []
NoLine (Err (Faulty fault)) number lines = (line : List ℕ) × (others : List (List ℕ)) × (lines ≡ line ∷ others) × (fault ≡ line_fault number line)
NoLine (Err NoMemory) number lines = Unit {0}
