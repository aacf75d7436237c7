-- The list is as long as the contents, so the contents are all that it holds once they are written over it.
use Rattle.std.proofs.Common.{◌≡◌, ℕ, ◌-◌, ◌^◌, length, min, leb, true, false, vec_items, sym, ◌∙◌, ap, arith}
use Rattle.std.proofs.lemmas.Bool.Decides.{nat_tests}
use Rattle.script_model.proofs.Shown.{no_first, shown_all}
use Rattle.report.proofs.contents.listing.Goals.{then-not-show+in_ok-push, else-not-show}
use Rattle.report.proofs.contents.listing.Goals as goal

-- what was shown was counted
counted_shown : (xs given count : ℕ) → count ≡ min xs (2 ^ 64 - 1) → given ≡ count → true ≡ leb xs given → xs ≡ count
counted_shown xs given count told lent shown = grind (arith, nat_tests)

-- what was not shown is longer than any list
not_counted : (xs given count : ℕ) → count ≡ min xs (2 ^ 64 - 1) → given ≡ count → false ≡ leb xs given → count ≡ 2 ^ 64 - 1
not_counted xs given count told lent shown = grind (arith, nat_tests)

pub returns-in_default : goal.returns-in_default
returns-in_default g c = c.new.ensures.items ∙ sym (no_first _ c.in_default.ensures)

pub returns : goal.returns
returns g c =
    let b = g.B.Board in
    let xs = b.plain.listed (b.means.contents (b.model c.args.board.now)) in
    let items = c.in_ok-items.items in
    let lent : length c.deref_mut.result.now ≡ c.items.result = c.deref_mut.ensures.len ∙ c.in_ok-items.ensures.len in
    elim c.if-not-show.branch [
      | then-not-show+in_ok-push w ↦
          absurd (
          let full = not_counted (length xs) (length c.deref_mut.result.now) c.items.result c.items.ensures lent w.if-not-show.ensures.told in
          let more = w.in_ok-push.ensures.len in
          let long = c.in_ok-items.ensures.len in
          let small = w.push.new.self.small in
          let same = w.push.new.self.ok.0 in
          omega arith)
      | else-not-show w ↦
          ap vec_items w.items-is
          ∙ shown_all xs (vec_items items) c.deref_mut.result.now c.show.new.list items.items
          c.items.result items.len c.in-Some.first true
          (counted_shown (length xs) (length c.deref_mut.result.now) c.items.result c.items.ensures lent w.if-not-show.ensures.told)
          c.in_ok-items.ensures.items c.deref_mut.ensures.value w.if-not-show.ensures.told w.if-not-show.ensures.left items.ok.0
    ]
