-- What a list holds once a board's contents are written over it, where it is as long as they are.
use Rattle.std.proofs.Common.{◌≡◌, ℕ, ◌-◌, ◌^◌, min, Bool, true, cond, leb, ◌≢◌, List, [], ◌∷◌, ◌++◌, length, take, drop, replicate, None, sym, refl, ap, ◌∙◌, append-nil, arith}
use lib.ListN.{length-replicate}
use Rattle.std.proofs.lemmas.List.{drop_all, take_at}
use Rattle.std.proofs.lemmas.Bool.Decides.{nat_tests}
use Rattle.std.specs.List.{slice_get}
use Rattle.boards.specs.Board.{over}

module _ {X : Type 0} where
  -- contents without a first item are empty
  pub no_first : (xs : List X) → None ≡ slice_get xs 0 → xs ≡ []
  no_first [] e = refl
  no_first (x ∷ xs) e = let z : ◌≡◌ {A = ℕ} 0 1 = cc in absurd (omega arith)

  -- written over a list of the same length, the contents are all that it holds
  over_all : (xs ys : List X) → length ys ≡ length xs → over xs ys ≡ xs
  over_all xs ys e = ap (λ l. xs ++ l) (drop_all (length xs) ys (omega arith)) ∙ append-nil xs

  -- a count that did not reach the largest number is the length
  pub counted : (xs : List X) (count : ℕ) → count ≡ min (length xs) (2 ^ 64 - 1) → count ≢ 2 ^ 64 - 1 → length xs ≡ count
  counted xs count e ne = grind (arith, nat_tests)

  -- the list that was handed in, `given`, was as long as the contents
  pub shown_all : (xs ys given list raw : List X) (count len : ℕ) (x : X) (wrote : Bool) →
      length xs ≡ count → ys ≡ replicate count x → given ≡ ys → wrote ≡ leb (length xs) (length given) → list ≡ cond wrote (over xs given) given → len ≡ length ys →
      take len (list ++ drop (length list) raw) ≡ xs
  shown_all xs ys given list raw count len x wrote n made lent told left room =
      let long : length ys ≡ length xs = ap length made ∙ length-replicate count x ∙ sym n in
      let same : length given ≡ length xs = ap length lent ∙ long in
      let yes : wrote ≡ true = grind (arith, nat_tests) in
      let is : list ≡ xs = left ∙ ap (λ b. cond b (over xs given) given) yes ∙ over_all xs given same in
      let fits : len ≡ length list = room ∙ long ∙ sym (ap length is) in
      ap (λ k. take k (list ++ drop (length list) raw)) fits ∙ take_at list (drop (length list) raw) (length list) refl ∙ is
