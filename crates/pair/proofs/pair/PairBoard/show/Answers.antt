-- The list is long enough exactly where there is no item past its end; then each turn writes one item more.
use Rattle.std.proofs.Common.{◌≡◌, false, length, set, is_some, Some, sym, ap, ◌∙◌, arith}
use Rattle.std.specs.List.{slice_get}
use Rattle.std.proofs.lemmas.Bool.{le-leb}
use Rattle.plain_model.specs.Pair.{listed}
use Rattle.pair_model.proofs.PairListed.{fits_within, over_more, over_all}
use Rattle.pair.proofs.pair.PairBoard.show.Goals as goal

pub loop-place-preserved : goal.loop-place-preserved
loop-place-preserved g c =
    let f = g.F.Board in
    let s = g.S.Board in
    let xs = listed f.plain s.plain (f.means.contents (f.model c.args.self.now.first), s.means.contents (s.model c.args.self.now.second)) in
    let there : slice_get xs c.loop-place.place ≡ Some c.in-Some.item = cc in
    ap (λ l. set l c.loop-place.place c.in-Some.item) c.loop-place.invariant ∙
    over_more xs c.args.list.now c.loop-place.place c.in-Some.item there c.loop-place-test.true

pub returns-clause-told : goal.returns-clause-told
returns-clause-told g c =
    let f = g.F.Board in
    let s = g.S.Board in
    let xs = listed f.plain s.plain (f.means.contents (f.model c.args.self.now.first), s.means.contents (s.model c.args.self.now.second)) in
    let no-past : is_some (slice_get xs (length c.args.list.now)) ≡ false = cc in
    sym (le-leb (length xs) (length c.args.list.now) (fits_within xs (length c.args.list.now) no-past))

pub returns-clause-left : goal.returns-clause-left
returns-clause-left g c =
    let f = g.F.Board in
    let s = g.S.Board in
    let xs = listed f.plain s.plain (f.means.contents (f.model c.args.self.now.first), s.means.contents (s.model c.args.self.now.second)) in
    let no-past : is_some (slice_get xs (length c.args.list.now)) ≡ false = cc in
    let within = fits_within xs (length c.args.list.now) no-past in
    c.loop-place.invariant ∙ over_all xs c.args.list.now c.loop-place.place (omega arith)
