use Rattle.std.proofs.Common.{◌≡◌, ℕ, ◌+◌, ◌-◌, ◌<◌, map, length, is_ok, Ok, vec_items, sym, ap, ◌∙◌, subst, arith, rules}
use Rattle.std.proofs.ResultArms.{chosen}
use Rattle.std.proofs.lemmas.Result.{err_from_is_err_and}
use Rattle.lex.specs.Runs.{lexeme}
use Rattle.lex.specs.Tokens.{before, lexed, tokens_of, read_part}
use Rattle.lex.proofs.Parts.{part_token, part_fault}
use Rattle.lex.proofs.tokens.tokens.Goals as goal

pub returns-in_err-token : goal.returns-in_err-token
returns-in_err-token c =
    let some : 0 < length c.loop-rest.rest.now = search rules in
    let parts = c.split_at.ensures in
    let p = err_from_is_err_and c.from_residual.result c.from_residual.ensures.1 in
    rw (p.1, p.2)
    (part_fault c.args.line.number (length c.args.line.bytes.now - length c.loop-rest.rest.now + 1) c.extent.result c.loop-rest.rest.now c.split_at.result.0.now c.split_at.result.1.now some c.extent.ensures parts.front parts.back c.place_of-place.result c.place_of-place.ensures
    (vec_items c.loop-rest.found) (vec_items c.loop-rest.found) (tokens_of c.args.line.number c.args.line.bytes.now) c.loop-rest.invariant.1 c.in_err-token.field-0.0
    c.in_err-token.ensures)

pub loop-rest-preserved-in_ok-push : goal.loop-rest-preserved-in_ok-push
loop-rest-preserved-in_ok-push c =
    let pushed = chosen _ _ _ _ c.push.ensures.items (ap is_ok c.in_ok-push.was) in
    let some : 0 < length c.loop-rest.rest.now = omega arith in
    let parts = c.split_at.ensures in
    let n : length c.split_at.result.1.now + (c.extent.result + 1) ≡ length c.loop-rest.rest.now = parts.back_len in
    let here : length c.args.line.bytes.now - length c.loop-rest.rest.now + 1 + 1 + c.extent.result ≡ length c.args.line.bytes.now - length c.split_at.result.1.now + 1 = omega arith in
    let P : ℕ → Type 0 = λ i. before (map lexeme (vec_items c.push.new.self)) (lexed c.args.line.number i 0 c.split_at.result.1.now) ≡ tokens_of c.args.line.number c.args.line.bytes.now in (
      omega arith,
      subst P here (part_token c.args.line.number (length c.args.line.bytes.now - length c.loop-rest.rest.now + 1) c.extent.result c.loop-rest.rest.now c.split_at.result.0.now c.split_at.result.1.now some c.extent.ensures parts.front parts.back c.place_of-place.result c.place_of-place.ensures
          (vec_items c.loop-rest.found) (vec_items c.push.new.self) (tokens_of c.args.line.number c.args.line.bytes.now) c.loop-rest.invariant.1 c.in-Some.token pushed (ap (λ o. read_part (Ok o)) (sym c.in-Some.is) ∙ c.in_ok-token.ensures)),
    )
