-- The lines, and then the report, print what the definition says.
use Rattle.std.proofs.Common.{◌≡◌, ℕ, List, ◌++◌, length, take, drop, Err, vec_items, string_bytes, sym, ap, ◌∙◌, subst, rules}
use Rattle.std.proofs.Math.Seq.{take-append_seam}
use Rattle.std.proofs.lemmas.Result.{err_from_is_err_and}
use Rattle.floor.specs.Model.{floor_of}
use Rattle.forms_model.specs.Rules.{Rules, rules_with}
use Rattle.shop.specs.Shop.{shop_model}
use Rattle.script_model.specs.State.{state}
use Rattle.script.specs.Script.{ShopFits, shop_ran, PartRan}
use Rattle.script.proofs.Ends.{shop_stopped, shop_open, shop_follows, shop_closed}
use Rattle.script.proofs.running.run_lines.Given as given
use Rattle.script.proofs.running.run_lines.Goals as goal

-- the rules of the trade, with the order and the texts of its key and its element
abbrev the_rules : (g : given.Over) → Rules g.row.T-Key.Denot g.row.T-Element.Denot
the_rules g = rules_with g.T.Key.Key.before g.T.Key.Text.bytes g.T.Element.Text.bytes g.T.Trade.rules

-- a list that was lent and written is the one lent again
lent_back : {A : Type 0} (n : ℕ) (lent was : List A) → length lent ≡ n → take n (lent ++ drop (length lent) was) ≡ lent
lent_back n lent was e = ap (λ k. take k (lent ++ drop (length lent) was)) (sym e) ∙ take-append_seam lent (drop (length lent) was)

pub returns-in_err-after : goal.returns-in_err-after
returns-in_err-after g c =
    let p = err_from_is_err_and c.from_residual.result c.from_residual.ensures.1 in
    let before = floor_of shop_model c.args.shop.floor in
    rw (p.1, p.2)
    (subst (λ r. ShopFits r before → PartRan (Err c.in_err-after.field-0.0) (shop_ran r (state before (vec_items c.args.shop.ledger)) c.args.lines.rest.now) (string_bytes c.args.out.now) (string_bytes c.obey_lines.new.out))
    (sym g.met.T.Trade.rules_are)
    (subst (λ l. ShopFits (the_rules g) before → PartRan (Err c.in_err-after.field-0.0) (shop_ran (the_rules g) (state before l) c.args.lines.rest.now) (string_bytes c.args.out.now) (string_bytes c.obey_lines.new.out))
    c.deref_mut.ensures.value
    (λ fits. shop_stopped (the_rules g) (state before c.deref_mut.result.now) (state (floor_of shop_model c.obey_lines.new.floor) c.obey_lines.new.ledger)
    c.args.lines c.requires (string_bytes c.args.out.now) (string_bytes c.obey_lines.new.out)
    c.in_err-after.field-0.0 (c.in_err-after.ensures.ran fits))))

pub returns-in_err-no_line-in-Some : goal.returns-in_err-no_line-in-Some
returns-in_err-no_line-in-Some g c =
    let p = err_from_is_err_and c.from_residual-in_err-no_line-in-Some.result c.from_residual-in_err-no_line-in-Some.ensures.1 in
    let before = floor_of shop_model c.args.shop.floor in
    rw (p.1, p.2)
    (subst (λ r. ShopFits r before → PartRan (Err c.in_err-no_line-in-Some.field-0.0) (shop_ran r (state before (vec_items c.args.shop.ledger)) c.args.lines.rest.now) (string_bytes c.args.out.now) (string_bytes c.obey_lines.new.out))
    (sym g.met.T.Trade.rules_are)
    (subst (λ l. ShopFits (the_rules g) before → PartRan (Err c.in_err-no_line-in-Some.field-0.0) (shop_ran (the_rules g) (state before l) c.args.lines.rest.now) (string_bytes c.args.out.now) (string_bytes c.obey_lines.new.out))
    c.deref_mut.ensures.value
    (λ fits. shop_follows (the_rules g) (state before c.deref_mut.result.now) (state (floor_of shop_model c.obey_lines.new.floor) c.obey_lines.new.ledger)
    c.args.lines c.requires (string_bytes c.args.out.now) (string_bytes c.obey_lines.new.out)
    c.in_ok-after.after (c.in_ok-after.ensures.ran fits) c.in-Some.lines c.in-Some.is
    c.in_err-no_line-in-Some.field-0.0 c.in_err-no_line-in-Some.ensures)))

pub returns-in-None : goal.returns-in-None
returns-in-None g c =
    let before = floor_of shop_model c.args.shop.floor in
    let after = floor_of shop_model c.obey_lines.new.floor in
    let same : c.deref.result.now ≡ c.obey_lines.new.ledger = c.deref.ensures.value ∙ lent_back c.args.shop.ledger.len c.obey_lines.new.ledger c.args.shop.ledger.items (search rules) in
    subst (λ r. ShopFits r before → PartRan c.finish.result (shop_ran r (state before (vec_items c.args.shop.ledger)) c.args.lines.rest.now) (string_bytes c.args.out.now) (string_bytes c.finish.new.out))
    (sym g.met.T.Trade.rules_are)
    (subst (λ l. ShopFits (the_rules g) before → PartRan c.finish.result (shop_ran (the_rules g) (state before l) c.args.lines.rest.now) (string_bytes c.args.out.now) (string_bytes c.finish.new.out))
    c.deref_mut.ensures.value
    (λ fits. shop_open (the_rules g) (state before c.deref_mut.result.now) (state after c.deref.result.now)
    c.args.lines c.requires (string_bytes c.args.out.now) (string_bytes c.obey_lines.new.out)
    c.in_ok-after.after (rw same (c.in_ok-after.ensures.ran fits)) c.in-None.is
    c.finish.result (string_bytes c.finish.new.out) c.finish.ensures))

pub returns-in_ok-no_line-in-Some : goal.returns-in_ok-no_line-in-Some
returns-in_ok-no_line-in-Some g c =
    let before = floor_of shop_model c.args.shop.floor in
    let same : c.deref-in-Some.result.now ≡ c.obey_lines.new.ledger = c.deref-in-Some.ensures.value ∙ lent_back c.args.shop.ledger.len c.obey_lines.new.ledger c.args.shop.ledger.items (search rules) in
    subst (λ r. ShopFits r before → PartRan c.finish-in-Some.result (shop_ran r (state before (vec_items c.args.shop.ledger)) c.args.lines.rest.now) (string_bytes c.args.out.now) (string_bytes c.finish-in-Some.new.out))
    (sym g.met.T.Trade.rules_are)
    (subst (λ l. ShopFits (the_rules g) before → PartRan c.finish-in-Some.result (shop_ran (the_rules g) (state before l) c.args.lines.rest.now) (string_bytes c.args.out.now) (string_bytes c.finish-in-Some.new.out))
    c.deref_mut.ensures.value
    (λ fits. shop_closed (the_rules g) (state before c.deref_mut.result.now) (state (floor_of shop_model c.obey_lines.new.floor) c.obey_lines.new.ledger)
    c.args.lines c.requires (string_bytes c.args.out.now) (string_bytes c.obey_lines.new.out)
    c.in_ok-after.after (c.in_ok-after.ensures.ran fits) c.in-Some.lines c.in-Some.is
    c.in_ok-no_line-in-Some.ensures
    (state (floor_of shop_model c.close.result) c.deref-in-Some.result.now) (ap (λ f. state f c.deref-in-Some.result.now) c.close.ensures.left ∙ ap (state (floor_of shop_model c.obey_lines.new.floor)) same)
    c.finish-in-Some.result (string_bytes c.finish-in-Some.new.out) c.finish-in-Some.ensures))
