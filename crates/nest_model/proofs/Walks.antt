-- What a walk along the chain passes, step by step, and what it has written of the listing.
use Rattle.std.proofs.Common.{◌≡◌, ℕ, zero, suc, ◌+◌, ◌-◌, ◌<◌, ◌≤◌, Bool, true, false, cond, List, [], ◌∷◌, ◌++◌, length, take, drop, set, Some, None, Option, sym, refl, ap, ◌∙◌, ap₂, ⊎_elim, arith, length-drop}
use Rattle.std.proofs.lemmas.Bool.{ne_eqb, cases_eq}
use Rattle.boards.specs.Board.{over}
use Rattle.nest_model.specs.declared.cell.Cell.{Cell}
use Rattle.nest_model.specs.Ends.{Extended, Low, Mid, High}
use Rattle.nest_model.specs.Cells.{back}
use Rattle.nest_model.specs.Chain.{after, push, listing, listed, enlist}

module _ {K : Type 0} (cell : ℕ → Cell) (key : ℕ → Extended K) where
  enlisted : (b : Bool) (x : Extended K) (r : List K) → cond b r (push x r) ≡ enlist (listed b x) r
  enlisted true x r = refl
  enlisted false Low r = refl
  enlisted false (Mid k) r = refl
  enlisted false High r = refl

  pub listing_next : (f n : ℕ) → (n ≡ back → ⊥) → listing cell key (suc f) n ≡ enlist (listed (cell n).mark (key n)) (listing cell key f (after cell n))
  listing_next f n ne = rw (ne_eqb n back ne) (enlisted (cell n).mark (key n) (listing cell key f (after cell n)))

  pub listing_back : (f : ℕ) → listing cell key f back ≡ []
  listing_back zero = refl
  listing_back (suc f) = refl

  -- one turn of a walk over so many nodes at most
  pub passed : (turns n : ℕ) (o : Option K) (m : ℕ) → 0 < turns → (n ≡ back → ⊥) → o ≡ listed (cell n).mark (key n) → m ≡ after cell n →
      listing cell key turns n ≡ enlist o (listing cell key (turns - 1) m)
  passed zero n o m h ne d e = absurd (omega arith)
  passed (suc f) n o m h ne d e =
      let q : suc f - 1 ≡ f = omega arith in
      rw q (listing_next f n ne ∙ ap₂ (λ (x : Option K) (y : ℕ). enlist x (listing cell key f y)) (sym d) (sym e))

  -- it has no more keys before it than nodes
  pub listing_most : (f n : ℕ) → length (listing cell key f n) ≤ f
  listing_most zero n = omega arith
  listing_most (suc f) n =
      ⊎_elim
      (λ e. rw e (omega arith))
      (λ ne. rw (listing_next f n ne) (omega (arith, enlist_most (listed (cell n).mark (key n)) (listing cell key f (after cell n)), listing_most f (after cell n))))
      (cases_eq n back)
    where
      enlist_most : (o : Option K) (r : List K) → length (enlist o r) ≤ length r + 1
      enlist_most None r = omega arith
      enlist_most (Some k) r = omega arith

-- a list whose first places were written from another
module _ {A : Type 0} where
  pub drop_length : (total : List A) (at : ℕ) (x : A) (rest : List A) → drop at total ≡ x ∷ rest → at < length total
  drop_length [] zero x rest e = let z : ◌≡◌ {A = ℕ} 0 1 = cc in absurd (omega arith)
  drop_length [] (suc at) x rest e = let z : ◌≡◌ {A = ℕ} 0 1 = cc in absurd (omega arith)
  drop_length (y ∷ ys) zero x rest e = omega arith
  drop_length (y ∷ ys) (suc at) x rest e = omega (arith, drop_length ys at x rest e)

  pub drop_more : (total : List A) (at : ℕ) (x : A) (rest : List A) → drop at total ≡ x ∷ rest → drop (at + 1) total ≡ rest
  drop_more total at x rest e = let q : at + 1 ≡ suc at = omega arith in rw q (go total at e)
    where
      go : (total : List A) (at : ℕ) → drop at total ≡ x ∷ rest → drop (suc at) total ≡ rest
      go [] zero e = let z : ◌≡◌ {A = ℕ} 0 1 = cc in absurd (omega arith)
      go [] (suc at) e = let z : ◌≡◌ {A = ℕ} 0 1 = cc in absurd (omega arith)
      go (y ∷ ys) zero e = cc
      go (y ∷ ys) (suc at) e = go ys at e

  pub written_more : (total list : List A) (at : ℕ) (x : A) (rest : List A) → drop at total ≡ x ∷ rest → length total ≤ length list →
      set (take at total ++ drop at list) at x ≡ take (at + 1) total ++ drop (at + 1) list
  written_more total list at x rest e h = let q : at + 1 ≡ suc at = omega arith in rw q (go total list at e h)
    where
      go : (total list : List A) (at : ℕ) → drop at total ≡ x ∷ rest → length total ≤ length list →
          set (take at total ++ drop at list) at x ≡ take (suc at) total ++ drop (suc at) list
      go [] list zero e h = let z : ◌≡◌ {A = ℕ} 0 1 = cc in absurd (omega arith)
      go [] list (suc at) e h = let z : ◌≡◌ {A = ℕ} 0 1 = cc in absurd (omega arith)
      go (y ∷ ys) [] at e h = absurd (omega arith)
      go (y ∷ ys) (z ∷ zs) zero e h = let q : y ≡ x = cc in rw q
      go (y ∷ ys) (z ∷ zs) (suc at) e h = ap (λ (r : List A). y ∷ r) (go ys zs at e (omega arith))

  pub written_all : (total list : List A) (at : ℕ) → drop at total ≡ [] → at ≤ length total → length total ≤ length list →
      take at total ++ drop at list ≡ over total list
  written_all [] list zero e h l = refl
  written_all [] list (suc at) e h l = absurd (omega arith)
  written_all (y ∷ ys) list zero e h l = let z : ◌≡◌ {A = ℕ} 0 1 = cc in absurd (omega arith)
  written_all (y ∷ ys) [] (suc at) e h l = absurd (omega arith)
  written_all (y ∷ ys) (z ∷ zs) (suc at) e h l = ap (λ (r : List A). y ∷ r) (written_all ys zs at e (omega arith) (omega arith))

-- a list at whose front so many elements of another were written, and those that are left to write
pub record Written {A : Type 0} (total before list rest : List A) (at : ℕ) : Type 0 where
  pub within : at ≤ length total
  pub front : list ≡ take at total ++ drop at before
  pub others : drop at total ≡ rest

module _ {A : Type 0} (total before : List A) where
  pub written_first : (rest : List A) (at : ℕ) → at ≡ 0 → rest ≡ total → Written total before before rest at
  written_first rest at e f = rw e (record { within = omega arith; front = refl; others = sym f })

  pub written_place : (list rest : List A) (at : ℕ) (x : A) (rest' : List A) → Written total before list rest at → rest ≡ x ∷ rest' → at < length total
  written_place list rest at x rest' w e = drop_length total at x rest' (w.others ∙ e)

  pub written_next : (list rest : List A) (at : ℕ) (x : A) (rest' : List A) (place at' : ℕ) → Written total before list rest at → rest ≡ x ∷ rest' → place ≡ at → at' ≡ at + 1 →
      length total ≤ length before → Written total before (set list place x) rest' at'
  written_next list rest at x rest' place at' w e p f l =
      let d = w.others ∙ e in
      rw (p, f)
      (record {
        within = omega (arith, drop_length total at x rest' d);
        front = ap (λ (r : List A). set r at x) w.front ∙ written_more total before at x rest' d l;
        others = drop_more total at x rest' d;
      })

  pub written_last : (list rest : List A) (at : ℕ) → Written total before list rest at → rest ≡ [] → length total ≤ length before → list ≡ over total before
  written_last list rest at w e l = w.front ∙ written_all total before at (w.others ∙ e) w.within l

  -- what was written and what is left are all
  pub written_fits : (list rest : List A) (at most : ℕ) → Written total before list rest at → length total < most → at + length rest < most
  written_fits list rest at most w l = omega (arith, w.within, ap length w.others, length-drop at total)
