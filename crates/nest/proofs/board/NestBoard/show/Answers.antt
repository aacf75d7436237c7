use Rattle.std.proofs.Common.{◌≡◌, ◌<◌, ◌^◌, length, ap, ◌∙◌, inl, arith}
use Rattle.std.specs.Iterator.Adapters.{enumerate_source, enumerate_count}
use Rattle.std.proofs.lemmas.Iterator.Consumers.{count_from_yields_List, YieldsList-from_first}
use Rattle.nest_model.specs.Meaning.{contents}
use Rattle.nest_model.proofs.Walks.{written_first, written_place, written_next, written_fits}
use Rattle.nest.specs.Walk.{ahead}
use Rattle.nest.proofs.board.NestBoard.show.Goals as goal

pub loop-place-init : goal.loop-place-init
loop-place-init g c =
    let all = contents c.args.self.now in let list = c.args.list.now in let walk = c.into_iter-place-iterator.result in
    let few : length all < 2 ^ 64 = omega (arith, c.keys.ensures.few) in
    let source : enumerate_source walk ≡ c.keys-2.result = ap enumerate_source c.into_iter-place-iterator.ensures.into_iter_gives ∙ c.enumerate-place-items.ensures.source in
    let count : enumerate_count walk ≡ 0 = ap enumerate_count c.into_iter-place-iterator.ensures.into_iter_gives ∙ c.enumerate-place-items.ensures.count in
    let w = written_first all list (ahead (enumerate_source walk)) (enumerate_count walk) count (ap ahead source ∙ c.keys-2.ensures.all) in
    ((tt, tt, inl (written_fits all list list (ahead (enumerate_source walk)) (enumerate_count walk) (2 ^ 64) w few)), tt, w)

pub bounds-list-place : goal.bounds-list-place
bounds-list-place g c =
    let all = contents c.args.self.now in let walk = c.loop-place.place-iterator in
    let long : c.count.result ≡ length all = count_from_yields_List c.keys.result c.count.result c.count.ensures.ran (YieldsList-from_first (λ (x : g.row.K.Denot). x) ahead all c.keys.ensures.all) in
    let place = written_place all c.args.list.now c.loop-place.list (ahead (enumerate_source walk)) (enumerate_count walk) c.in-Some.key _ c.loop-place.invariant.2 c.in-Some.ensures.steps.0 in
    omega (arith, place, c.in-Some.ensures.steps.1, c.if-count-list.false, c.loop-place.auto.list)

pub loop-place-preserved : goal.loop-place-preserved
loop-place-preserved g c =
    let all = contents c.args.self.now in let list = c.args.list.now in let walk = c.loop-place.place-iterator in let walk' = c.next.new.self in
    let few : length all < 2 ^ 64 = omega (arith, c.keys.ensures.few) in
    let long : c.count.result ≡ length all = count_from_yields_List c.keys.result c.count.result c.count.ensures.ran (YieldsList-from_first (λ (x : g.row.K.Denot). x) ahead all c.keys.ensures.all) in
    let steps = c.in-Some.ensures.steps in
    let w = written_next all list c.loop-place.list (ahead (enumerate_source walk)) (enumerate_count walk) c.in-Some.key (ahead (enumerate_source walk')) c.in-Some.place (enumerate_count walk')
    c.loop-place.invariant.2 steps.0 steps.1 steps.2 (omega (arith, c.if-count-list.false)) in
    ((tt, tt, inl (written_fits all list _ (ahead (enumerate_source walk')) (enumerate_count walk') (2 ^ 64) w few)), tt, w)
