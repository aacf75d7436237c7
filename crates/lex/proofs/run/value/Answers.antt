use Rattle.std.proofs.Common.{◌≡◌, ℕ, ◌+◌, ◌-◌, ◌*◌, ◌^◌, get_or, drop, sym, ap, ◌∙◌, pow-suc, add-one, arith}
use Rattle.std.proofs.lemmas.List.{at_drop_more, at_drop_all}
use Rattle.lex.specs.Runs.{value_from}
use Rattle.lex.proofs.run.value.Goals as goal

pub loop-digit-preserved : goal.loop-digit-preserved
loop-digit-preserved c =
    let i : ℕ = c.loop-digit.digit-index in
    let p : 10 ^ (i + 1) ≡ 10 ^ i * 10 = ap (λ k. 10 ^ k) (add-one i) ∙ pow-suc 10 i in
    let d : c.from.result ≡ get_or c.args.digits.now i 0 - 48 = c.from.ensures ∙ c.saturating_sub.ensures in
    let small = c.type_inv.digits i in (
      omega arith,
      ap (λ x. value_from (c.loop-digit.value * 10 + x) (drop (i + 1) c.args.digits.now)) d
          ∙ sym (at_drop_more (value_from c.loop-digit.value) c.args.digits.now i 0 c.loop-digit-test.true) ∙ c.loop-digit.invariant.1,
    )

pub returns : goal.returns
returns c = sym (at_drop_all (value_from c.loop-digit.value) c.args.digits.now c.loop-digit.digit-index c.loop-digit-test.false) ∙ c.loop-digit.invariant.1
