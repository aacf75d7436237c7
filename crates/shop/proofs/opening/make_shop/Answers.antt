-- The board is fresh and sound, so the floor keeps the law with its ledger.
use Rattle.std.proofs.Common.{◌≡◌, length, replicate, vec_items, sym, ap, ◌∙◌, subst, arith}
use Rattle.boards.specs.Board.{Fresh}
use Rattle.floor_model.specs.Floor.{Floor, opened}
use Rattle.floor_model.proofs.Stations.{all_free_each}
use Rattle.shop.specs.Shop.{ShopModel, ShopSound, shop_model, shop_board, shop_means, shop_plain}
use Rattle.shop.proofs.opening.make_shop.Goals as goal

pub returns-clause-opened : goal.returns-clause-opened
returns-clause-opened g c =
    let before = g.K.Key.before in
    let s = c.args.sizes in
    let board = c.new.result in
    let floor = c.open-floor in
    let pairs = c.new.ensures.fresh c.in_ok-nest.ensures.sound c.in_ok-line.ensures.sound c.in_ok-nest.ensures.fresh c.in_ok-line.ensures.fresh in
    let sound : ShopSound g.row.E.Denot before (shop_model floor.result.board) = subst (λ b. ShopSound g.row.E.Denot before (shop_model b)) (sym floor.ensures.over) pairs.0 in
    let fresh : Fresh (shop_means g.row.E.Denot before) (shop_plain g.row.E.Denot before).empty (shop_model floor.result.board) = subst (λ b. Fresh (shop_means g.row.E.Denot before) (shop_plain g.row.E.Denot before).empty (shop_model b)) (sym floor.ensures.over) pairs.1 in
    let first : (shop_model board).0 ≡ (shop_board s.stations s.nest_nodes s.line_nodes c.args.key c.args.element).0 = c.new.ensures.first ∙ c.in_ok-nest.ensures.is in
    let second : (shop_model board).1 ≡ (shop_board s.stations s.nest_nodes s.line_nodes c.args.key c.args.element).1 = c.new.ensures.second ∙ c.in_ok-line.ensures.is in
    let both : shop_model board ≡ shop_board s.stations s.nest_nodes s.line_nodes c.args.key c.args.element = λ i. (first i, second i) in
    let limit : floor.result.limit ≡ s.limit = ap (λ (f : Floor (ShopModel g.row.K.Denot g.row.E.Denot)). f.limit) floor.ensures.left in
    let long : length (vec_items c.in_ok-ledger.ledger) ≡ s.limit = sym c.in_ok-ledger.ledger.ok.0 ∙ c.in_ok-ledger.ensures.len in
    record {
      floor_is = floor.ensures.left ∙ ap (λ (m : ShopModel g.row.K.Denot g.row.E.Denot). opened m s.limit) both;
      ledger_is = c.in_ok-ledger.ensures.items ∙ ap (λ l. replicate s.limit l) c.blank.ensures;
      fits = floor.ensures.fits pairs.0 (all_free_each (shop_means g.row.E.Denot before) (shop_model board) pairs.1.station);
      law = floor.ensures.law sound fresh (vec_items c.in_ok-ledger.ledger) (omega (arith, limit, long));
    }
