use Rattle.std.proofs.Common.{rules, tests, ap, ◌∙◌}
use Rattle.std.proofs.lemmas.Iterator.Search.{all_from_yields_List}
use Rattle.boards.specs.Board.{is_free, free_to}
use Rattle.boards.proofs.Ranges.{YieldsList-from_1_to, all_free_list}
use Rattle.boards.proofs.board.Board.all_free.Goals as goal

pub returns : goal.returns
returns g c =
    let b = g.Self.Board in
    let m = b.model c.args.self.now in
    all_from_yields_List (λ p. is_free (b.means.station m p)) _ _ _ c.all.ensures.ran
    (YieldsList-from_1_to c.stations.result c.new.ensures.start c.new.ensures.end c.new.ensures.exhausted) (λ x r q k. search (rules, tests)) ∙
    all_free_list b.means m c.stations.result ∙ ap (free_to b.means m) c.stations.ensures.told
