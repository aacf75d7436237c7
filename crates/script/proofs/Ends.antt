-- How a run ends: at a line that stopped it, after a close that was taken, and with its report.
use Rattle.std.proofs.Common.{◌≡◌, ℕ, suc, ◌≤◌, false, cond, ltb, List, [], ◌∷◌, ◌++◌, length, replicate, Some, None, Ok, Err, codes, Option, Result, Vec, sym, refl, ap, ◌∙◌, subst, append_assoc, arith}
use Rattle.keys.specs.declared.refusal.Refusal.{Refusal}
use Rattle.keys.specs.declared.refusal.Refusal.TheVariants.{NoMemory as WantOfMemory}
use Rattle.boards.specs.Board.{Steps, Meaning}
use Rattle.lex.specs.Lines.{lines_of, first_of, after_first}
use Rattle.std.proofs.lemmas.Bool.Decides.{nat_tests}
use Rattle.lex.specs.Faults.{no_form, too_long}
use Rattle.lex.specs.Runs.{Lexeme}
use Rattle.lex.specs.Tokens.{tokens_of, Reads}
use Rattle.lex.specs.declared.token.Token.{Token}
use Rattle.lex.specs.declared.fault.Fault.{Fault}
use Rattle.lex.specs.NextLine.{ReadsLine}
use Rattle.lex.specs.declared.line.ScriptLine.{ScriptLine}
use Rattle.lex.specs.declared.line.Lines.{Lines}
use Rattle.lex.proofs.Lines.{lines_first}
use Rattle.std.specs.declared.alloc.Global.{Global}
use Rattle.lex.specs.declared.fault.Stop.{Stop}
use Rattle.lex.specs.declared.fault.Stop.TheVariants.{Faulty, NoMemory}
use Rattle.forms_model.specs.Operations.{operation_at}
use Rattle.forms_model.specs.Reading.{Parsed}
use Rattle.forms_model.specs.Openings.{line_opening}
use Rattle.forms_model.specs.declared.opening.Kind.{Kind}
use Rattle.forms_model.specs.declared.opening.Opening.{Opening}
use Rattle.floor_model.specs.Floor.{Floor, opened}
use Rattle.floor_model.specs.History.{State}
use Rattle.floor_model.specs.declared.line.Line.{Line}
use Rattle.script_model.specs.Replies.{line_of, refusal_text}
use Rattle.script_model.specs.State.{state}
use Rattle.script_model.specs.Run.{Printed, then, faulted, fault_or_no_form, line_fault, ran, reported, after_close, line_step, LineRan}
use Rattle.script_model.specs.declared.ending.Ending.{Ending}
use Rattle.script_model.specs.declared.ending.Ending.TheVariants.{Reported, NotOpened}
use Rattle.script_model.proofs.Days.{run_of}
use Rattle.script_model.proofs.Turns.{broken}
use Rattle.shop.specs.Shop.{ShopOp, ShopAnswer, ShopModel, shop_refusal, or_memory, shop_board, blank_line, shop_plain, shop_means, shop_steps}
use Rattle.script.specs.Lines.{Ended, LinesRan}
use Rattle.forms_model.specs.Rules.{Rules}
use Rattle.script.specs.Script.{answer_text, shop_report, shop_ran, opened_shop, begun_unless, begun, ShopLaw, Day, by_kind, from_opening, script_run, DayOf, RunsADay, UnlessMemory, PartRan, NoLine}

module _ {Model Plain Op Answer : Type 0} (steps : Steps Model Op Answer) (means : Meaning Model Plain Op Answer)
    (operation_at : List Lexeme → Parsed (Result Op Refusal)) (answer_text : Answer → List ℕ) (report : State Model Op Answer → List ℕ) where
  pub stopped : (s t : State Model Op Answer) (left : Lines) (line : ScriptLine) (after : Lines) (was now : List ℕ) (whole : Printed) → ReadsLine left line after →
      then was (ran steps means operation_at answer_text report s left.number (lines_of left.rest.now)) ≡ whole →
      (stop : Stop) → LineRan answer_text (Err stop) (line_step steps means operation_at s line.number line.bytes.now) was now t →
      Ended (reported steps means operation_at answer_text report) (after_close steps means operation_at answer_text report) (Err stop) whole now t
  stopped s t left line after was now whole read inv (Faulty fault) told =
      broken steps means operation_at answer_text report s left line after read was whole inv fault now told.0 told.1
  stopped s t left line after was now whole read inv NoMemory told = tt

module _ (left : Lines) (line : ScriptLine) (after : Lines) (read : ReadsLine left line after) where
  -- the first of the lines that follow is at fault
  first_fault : (fault : Fault) → fault ≡ line_fault line.number line.bytes.now → NoLine (Err (Faulty fault)) left.number (lines_of left.rest.now)
  first_fault fault e =
      (line.bytes.now, lines_of after.rest.now, read.lines, e ∙ ap (λ n. line_fault n line.bytes.now) read.number)

  -- its tokens are read, so it is no form that may stand there
  pub read_fault : (tokens : Vec Token Global) → Reads {Z = Global} (Ok tokens) (tokens_of line.number line.bytes.now) →
      NoLine (Err (Faulty (no_form line.number))) left.number (lines_of left.rest.now)
  read_fault tokens told = first_fault (no_form line.number) (ap (fault_or_no_form line.number) (sym told))

  -- its tokens are not read
  pub unread_fault : (stop : Stop) → Reads {Z = Global} (Err stop) (tokens_of line.number line.bytes.now) → NoLine (Err stop) left.number (lines_of left.rest.now)
  unread_fault (Faulty fault) told = first_fault fault (ap (fault_or_no_form line.number) (sym told))
  unread_fault NoMemory told = tt

-- what ends a run, after what was printed before
pub part_after : (r : Result Ending Stop) (said whole : Printed) (was mid now : List ℕ) → PartRan r said mid now → then mid said ≡ then was whole → PartRan r whole was now
part_after (Ok ending) said whole was mid now told inv = told ∙ inv
part_after (Err (Faulty fault)) said whole was mid now told inv = told ∙ inv
part_after (Err NoMemory) said whole was mid now told inv = tt

module _ {Model Plain Op Answer : Type 0} (steps : Steps Model Op Answer) (means : Meaning Model Plain Op Answer)
    (operation_at : List Lexeme → Parsed (Result Op Refusal)) (answer_text : Answer → List ℕ) (report : State Model Op Answer → List ℕ)
    (left : State Model Op Answer) (number : ℕ) (lines : List (List ℕ)) (whole : Printed) (was now : List ℕ)
    (inv : then now (after_close steps means operation_at answer_text report left number lines) ≡ then was whole) where
  -- a line follows a close that was taken
  pub line_follows : (stop : Stop) → NoLine (Err stop) number lines → PartRan (Err stop) whole was now
  line_follows (Faulty fault) told =
      ap (λ f. then now (faulted f)) told.3 ∙ sym (ap (λ ls. then now (after_close steps means operation_at answer_text report left number ls)) told.2) ∙ inv
  line_follows NoMemory told = tt

  -- no line follows it
  pub none_follows : lines ≡ [] → then now (reported steps means operation_at answer_text report left) ≡ then was whole
  none_follows none = sym (ap (λ ls. then now (after_close steps means operation_at answer_text report left number ls)) none) ∙ inv

-- the run of a shop's floor, from a state with its ledger to another, over the lines after the first
module _ {K E : Type 0} (rules : Rules K E) (s t : State (ShopModel K E) (ShopOp K E) (ShopAnswer E)) (lines : Lines) (second : lines.number ≡ 2) (was now : List ℕ) where
  abbrev report : State (ShopModel K E) (ShopOp K E) (ShopAnswer E) → List ℕ
  report = shop_report rules.before rules.key_text rules.element_text

  abbrev whole : Printed
  whole = shop_ran rules s lines.rest.now

  abbrev RanSo : Result (Option Lines) Stop → Type 0
  RanSo r =
      LinesRan (shop_steps E rules.before) (shop_means E rules.before) (operation_at rules) (answer_text rules.element_text)
      r lines was now s t

  -- what is told of the report, from the second line on
  from_second : (r : Result (Option Lines) Stop) → RanSo r →
      Ended (reported (shop_steps E rules.before) (shop_means E rules.before) (operation_at rules) (answer_text rules.element_text) report)
      (after_close (shop_steps E rules.before) (shop_means E rules.before) (operation_at rules) (answer_text rules.element_text) report) r (then was whole) now t
  from_second r told =
      subst (λ n. Ended (reported (shop_steps E rules.before) (shop_means E rules.before) (operation_at rules) (answer_text rules.element_text) report)
      (after_close (shop_steps E rules.before) (shop_means E rules.before) (operation_at rules) (answer_text rules.element_text) report) r
      (then was (ran (shop_steps E rules.before) (shop_means E rules.before) (operation_at rules) (answer_text rules.element_text) report s n (lines_of lines.rest.now))) now t)
      second (told report)

  pub shop_stopped : (stop : Stop) → RanSo (Err stop) → PartRan (Err stop) whole was now
  shop_stopped (Faulty fault) told = from_second (Err (Faulty fault)) told
  shop_stopped NoMemory told = tt

  module _ (after : Option Lines) (told : RanSo (Ok after)) where
    -- the script ends, and the report is printed
    pub shop_open : after ≡ None → (r : Result Ending Stop) (end : List ℕ) → PartRan r (report t, Reported) now end → PartRan r whole was end
    shop_open is r end printed =
        part_after r (report t, Reported) whole was now end printed (from_second (Ok None) (subst (λ v. RanSo (Ok v)) is told))

    module _ (rest : Lines) (is : after ≡ Some rest) where
      -- a line follows the close
      pub shop_follows : (stop : Stop) → NoLine (Err stop) rest.number (lines_of rest.rest.now) → PartRan (Err stop) whole was now
      shop_follows =
          line_follows (shop_steps E rules.before) (shop_means E rules.before) (operation_at rules) (answer_text rules.element_text)
          report t rest.number (lines_of rest.rest.now) whole was now (from_second (Ok (Some rest)) (subst (λ v. RanSo (Ok v)) is told))

      -- no line follows the close, and the report of the closed floor is printed
      pub shop_closed : lines_of rest.rest.now ≡ [] → (u : State (ShopModel K E) (ShopOp K E) (ShopAnswer E)) → u ≡ t →
          (r : Result Ending Stop) (end : List ℕ) → PartRan r (report u, Reported) now end → PartRan r whole was end
      shop_closed none u same r end printed =
          part_after r (report t, Reported) whole was now end (subst (λ v. PartRan r (report v, Reported) now end) same printed)
          (none_follows (shop_steps E rules.before) (shop_means E rules.before) (operation_at rules) (answer_text rules.element_text)
          report t rest.number (lines_of rest.rest.now) whole was now (from_second (Ok (Some rest)) (subst (λ v. RanSo (Ok v)) is told)) none)

-- a floor that was opened, with the key and the element that fill its unused nodes
pub opened_same : {K E : Type 0} (rules : Rules K E) (o : Opening) (key : K) (element : E) (f : Floor (ShopModel K E)) (ledger : List (Line (ShopOp K E) (ShopAnswer E))) →
    key ≡ rules.blank_key → element ≡ rules.blank_element →
    f ≡ opened (shop_board o.stations o.nodes o.line_nodes key element) o.limit → ledger ≡ replicate o.limit blank_line → state f ledger ≡ opened_shop rules o
opened_same rules o key element f ledger is_key is-element is-floor is-ledger =
    ap (λ l. state f l) is-ledger
    ∙ ap (λ g. state g (replicate o.limit blank_line)) is-floor
    ∙ ap (λ k. state (opened (shop_board o.stations o.nodes o.line_nodes k element) o.limit) (replicate o.limit blank_line)) is_key
    ∙ ap (λ e. state (opened (shop_board o.stations o.nodes o.line_nodes rules.blank_key e) o.limit) (replicate o.limit blank_line)) is-element

-- a statement that holds holds unless memory was lacking
pub unless_memory : (r : Result Ending Stop) {P : Type 0} → P → UnlessMemory r P
unless_memory (Ok ending) p = p
unless_memory (Err (Faulty fault)) p = p
unless_memory (Err NoMemory) p = tt

-- the run of a floor that was opened
module _ {K E : Type 0} (rules : Rules K E) (o : Opening) (rest : List ℕ) (none : shop_refusal o.stations o.limit o.nodes o.line_nodes ≡ None) where
  pub begun_ran : (was mid : List ℕ) (f : Floor (ShopModel K E)) (ledger lent : List (Line (ShopOp K E) (ShopAnswer E))) →
      state f ledger ≡ opened_shop rules o → lent ≡ ledger → mid ≡ was ++ line_of (codes "(opened)") →
      (r : Result Ending Stop) (end : List ℕ) → PartRan r (shop_ran rules (state f lent) rest) mid end → PartRan r (begun rules o rest) was end
  begun_ran was mid f ledger lent same is-lent printed r end told =
      part_after r (shop_ran rules (opened_shop rules o) rest) (begun rules o rest) was mid end
      (subst (λ s. PartRan r (shop_ran rules s rest) mid end) (ap (λ l. state f l) is-lent ∙ same) told)
      (ap (λ m. then m (shop_ran rules (opened_shop rules o) rest)) printed
      ∙ ap (λ (t : List ℕ). let p : Printed = (t, (shop_ran rules (opened_shop rules o) rest).1) in p) (append_assoc was (line_of (codes "(opened)")) (shop_ran rules (opened_shop rules o) rest).0)
      ∙ ap (λ c. then was (begun_unless rules c o rest)) (sym none))

  -- it is a day on that floor
  pub begun_day : ShopLaw rules o → Day rules o (begun rules o rest)
  begun_day law =
      let run = run_of (shop_plain E rules.before) (shop_steps E rules.before) (shop_means E rules.before) (operation_at rules)
      (answer_text rules.element_text) (shop_report rules.before rules.key_text rules.element_text) o.limit (opened_shop rules o) (lines_of rest) 2 in
      (shop_ran rules (opened_shop rules o) rest, ap (λ c. begun_unless rules c o rest) none, record { run = run; law = law run.calls })

-- the reason for which sizes were refused, where it is not want of memory
refused_by : (reason : Refusal) (refusal : Option Refusal) → reason ≡ or_memory refusal → (reason ≡ WantOfMemory → ⊥) → refusal ≡ Some reason
refused_by reason None e other = absurd (other e)
refused_by reason (Some named) e other = ap Some (sym e)

-- a floor form that is sent back ends the run
pub refused_ran : {K E : Type 0} (rules : Rules K E) (o : Opening) (rest was now : List ℕ) (reason : Refusal) →
    reason ≡ or_memory (shop_refusal o.stations o.limit o.nodes o.line_nodes) → (reason ≡ WantOfMemory → ⊥) → now ≡ was ++ line_of (refusal_text reason) →
    PartRan (Ok (NotOpened reason)) (begun rules o rest) was now
refused_ran rules o rest was now reason told other printed =
    ap (λ (t : List ℕ). let p : Printed = (t, NotOpened reason) in p) printed ∙ ap (λ c. then was (begun_unless rules c o rest)) (sym (refused_by reason _ told other))

-- and it is no day on a floor
pub refused_day : {P : Type 0} (o : Opening) (reason : Refusal) → reason ≡ or_memory (shop_refusal o.stations o.limit o.nodes o.line_nodes) → (reason ≡ WantOfMemory → ⊥) →
    shop_refusal o.stations o.limit o.nodes o.line_nodes ≡ None → P
refused_day o reason told other none =
    let some = refused_by reason (shop_refusal o.stations o.limit o.nodes o.line_nodes) told other in let z : ◌≡◌ {A = ℕ} 0 1 = cc in absurd (omega arith)

unless_map : (r : Result Ending Stop) {P Q : Type 0} → (P → Q) → UnlessMemory r P → UnlessMemory r Q
unless_map (Ok ending) f p = f p
unless_map (Err (Faulty fault)) f p = f p
unless_map (Err NoMemory) f p = tt

-- a script whose first line is a floor form of that kind runs as that kind of floor does
module _ (kind : Kind) (bytes line rest was now : List ℕ) (o : Opening) (r : Result Ending Stop) (few : length bytes ≤ 32768) (front : line ≡ first_of bytes)
    (back : rest ≡ after_first bytes) (read : line_opening 1 line ≡ Ok o) (is : o.kind ≡ kind) where
  opening_read : line_opening 1 (first_of bytes) ≡ Ok o
  opening_read = ap (line_opening 1) (sym front) ∙ read

  same_run : by_kind kind o rest ≡ script_run bytes
  same_run =
      ap (by_kind kind o) back
      ∙ ap (λ k. by_kind k o (after_first bytes)) (sym is)
      ∙ ap (λ a. from_opening a (after_first bytes)) (sym opening_read)
      ∙ ap (λ b. cond b (faulted too_long) (from_opening (line_opening 1 (first_of bytes)) (after_first bytes))) (sym short)
    where
      short : ltb 32768 (length bytes) ≡ false
      short = grind (arith, nat_tests)

  pub kind_ran : PartRan r (by_kind kind o rest) was now → PartRan r (script_run bytes) was now
  kind_ran told = subst (λ p. PartRan r p was now) same_run told

  pub kind_day : UnlessMemory r (shop_refusal o.stations o.limit o.nodes o.line_nodes ≡ None → DayOf kind o (by_kind kind o rest)) →
      UnlessMemory r (RunsADay bytes (script_run bytes))
  kind_day told = unless_map r day told
    where
      day : (shop_refusal o.stations o.limit o.nodes o.line_nodes ≡ None → DayOf kind o (by_kind kind o rest)) → RunsADay bytes (script_run bytes)
      day told other few' read' none =
          let one : o ≡ other = cc (opening_read, read') in
          subst (λ p. shop_refusal p.stations p.limit p.nodes p.line_nodes ≡ None → DayOf p.kind p (script_run bytes)) one
          (λ n. subst (λ q. DayOf o.kind o q) same_run (subst (λ k. DayOf k o (by_kind kind o rest)) (sym is) (told n))) none

-- a script without lines has no first line that is a form
pub no_script : (bytes : List ℕ) → lines_of bytes ≡ [] → script_run bytes ≡ faulted (no_form 1)
no_script [] none = refl
no_script (b ∷ bs) none = absurd (let one : ◌≡◌ {A = List (List ℕ)} (first_of (b ∷ bs) ∷ lines_of (after_first (b ∷ bs))) [] = sym (lines_first (b ∷ bs) (omega arith)) ∙ none in let n : suc (length (lines_of (after_first (b ∷ bs)))) ≡ 0 = ap length one in omega arith)

pub no_script_day : (bytes : List ℕ) → lines_of bytes ≡ [] → RunsADay bytes (script_run bytes)
no_script_day [] none o few read fits = absurd (let z : ◌≡◌ {A = ℕ} 0 1 = cc in omega arith)
no_script_day (b ∷ bs) none o few read fits = absurd (let one : ◌≡◌ {A = List (List ℕ)} (first_of (b ∷ bs) ∷ lines_of (after_first (b ∷ bs))) [] = sym (lines_first (b ∷ bs) (omega arith)) ∙ none in let n : suc (length (lines_of (after_first (b ∷ bs)))) ≡ 0 = ap length one in omega arith)
