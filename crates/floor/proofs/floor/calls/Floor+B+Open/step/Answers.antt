use Rattle.std.proofs.Common.{◌≡◌, true, length, is_some, Ok, sym, refl, ap, ◌∙◌, subst}
use Rattle.floor_model.specs.Floor.{Floor, Fits, checked, with_board, entry, touch, touch_refusal, touch_taken}
use Rattle.floor_model.proofs.Calls.{passed, taken, same_floor, touch_room, entry_uncounted, enter_same}
use Rattle.floor_model.proofs.Fitting.{touch_fits}
use Rattle.floor.specs.Model.{floor_of}
use Rattle.floor.proofs.floor.calls.Floor+B+Open.step.Goals as goal

pub returns : goal.returns
returns g c =
    let b = g.B.Board in
    let f : Floor b.Model = floor_of b.model c.args.self.now in
    let p = c.args.station in
    let l = c.args.ledger.now in
    let r = b.steps.touch f.board p in
    let st = b.means.station f.board p in
    let is-entry : c.entry.result ≡ entry st r.1.0 r.1.1 =
    c.entry.ensures ∙ ap (λ x. entry x c.touch-outcome.result.0 c.touch-outcome.result.1) c.station-was.ensures ∙
    ap (λ x. entry st x.0 x.1) c.touch-outcome.ensures.told in
    let left : checked (touch_refusal b.means f p (length l)) ≡ Ok tt → Fits b.means b.sound f →
    (floor_of b.model c.enter.new.self, c.enter.new.ledger) ≡ (touch b.steps b.means f p l).0 =
    λ passes k.
    let none = passed (touch_refusal b.means f p (length l)) passes in
    c.enter.ensures (λ s. touch_room b.means f p b.sound (length l) k none (entry_uncounted st r.1.0 r.1.1 (subst (λ x. is_some x ≡ true) is-entry s))) ∙
    enter_same _ (with_board f r.0) p l _ _
    (same_floor _ _ f.limit f.written f.written f.turns f.turns c.touch-outcome.ensures.left refl refl) is-entry ∙
    sym (ap (λ x. x.0) (taken (touch_refusal b.means f p (length l)) (f, l) (touch_taken b.steps b.means f p l, r.1) none)) in
    record {
      told = c.touch-outcome.ensures.told;
      left = left;
      fits = λ passes k. subst (Fits b.means b.sound) (sym (ap (λ x. x.0) (left passes k)))
          (touch_fits b.plain b.steps b.means b.sound g.met.B.Board.laws f k p l);
    }
