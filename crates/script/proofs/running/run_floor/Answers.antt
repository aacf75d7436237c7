-- A floor that was opened is run, and prints what the definition says.
use Rattle.std.proofs.Common.{◌≡◌, vec_items, string_bytes, sym, refl, subst}
use Rattle.floor.specs.Model.{floor_of}
use Rattle.floor_model.specs.Law.{Law}
use Rattle.forms_model.specs.Rules.{Rules, rules_with}
use Rattle.shop.specs.Shop.{shop_model, shop_plain, shop_means, shop_steps}
use Rattle.script_model.specs.State.{state}
use Rattle.script.specs.Script.{ShopFits, opened_shop, begun, Day}
use Rattle.script.proofs.Ends.{opened_same, unless_memory, begun_ran, begun_day}
use Rattle.script.proofs.running.run_floor.Given as given
use Rattle.script.proofs.running.run_floor.Goals as goal

-- the rules of the trade, with the order and the texts of its key and its element
abbrev the_rules : (g : given.Over) → Rules g.row.T-Key.Denot g.row.T-Element.Denot
the_rules g = rules_with g.T.Key.Key.before g.T.Key.Text.bytes g.T.Element.Text.bytes g.T.Trade.rules

pub returns-in_ok-put_reply-in-Ok-clause-ran : goal.returns-in_ok-put_reply-in-Ok-clause-ran
returns-in_ok-put_reply-in-Ok-clause-ran g c =
    let shop = c.in-Ok.ensures in
    let floor = floor_of shop_model c.in-Ok.shop.floor in
    let ledger = vec_items c.in-Ok.shop.ledger in
    let same : state floor ledger ≡ opened_shop g.T.Trade.rules c.args.opening =
    opened_same g.T.Trade.rules c.args.opening c.blank_key.result c.blank_element.result floor ledger
    c.blank_key.ensures c.blank_element.ensures shop.opened.floor_is shop.opened.ledger_is in
    begun_ran g.T.Trade.rules c.args.opening c.args.lines.rest.now shop.sizes (string_bytes c.args.out.now) (string_bytes c.put_reply.new.out)
    floor ledger ledger same refl c.in_ok-put_reply-in-Ok.ensures c.run_lines.result (string_bytes c.run_lines.new.out)
    (c.run_lines.ensures (subst (λ r. ShopFits r floor) (sym g.met.T.Trade.rules_are) shop.opened.fits))

pub returns-in_ok-put_reply-in-Ok-clause-day : goal.returns-in_ok-put_reply-in-Ok-clause-day
returns-in_ok-put_reply-in-Ok-clause-day g c =
    let shop = c.in-Ok.ensures in
    let r = the_rules g in
    let o = c.args.opening in
    let floor = floor_of shop_model c.in-Ok.shop.floor in
    let ledger = vec_items c.in-Ok.shop.ledger in
    let same : state floor ledger ≡ opened_shop r o =
    opened_same r o c.blank_key.result c.blank_element.result floor ledger
    c.blank_key.ensures c.blank_element.ensures shop.opened.floor_is shop.opened.ledger_is in
    unless_memory c.run_lines.result (λ none. subst (λ r. Day r o (begun r o c.args.lines.rest.now)) (sym g.met.T.Trade.rules_are)
    (begun_day r o c.args.lines.rest.now none
    (subst (Law (shop_plain g.row.T-Element.Denot r.before) (shop_steps g.row.T-Element.Denot r.before) (shop_means g.row.T-Element.Denot r.before)) same shop.opened.law)))
