-- What a turn of a loop that prints items one after another keeps.
use Rattle.std.proofs.Common.{◌≡◌, ℕ, ◌+◌, ◌<◌, ◌≤◌, min, ◌⊎◌, List, [], ◌∷◌, ◌++◌, length, get_or, take, drop, codes, sym, refl, ap, ◌∙◌, inl, inr, append_assoc, append-nil, arith}
use Rattle.std.specs.List.{between}
use Rattle.std.proofs.lemmas.List.{at_drop_more, at_drop_all, take_all}
use Rattle.std.proofs.lemmas.Slice.{first_rest}
use Rattle.floor_model.specs.declared.line.Line.{Line}
use Rattle.script_model.specs.Report.{joined, on_line, list_text, entry_text, report_text}

module _ {X : Type 0} (text : X → List ℕ) (xs : List X) (i : ℕ) where
  -- one item more is printed
  pub joined_turn : (x : X) (was now whole : List ℕ) → i < length xs → x ≡ get_or xs i x → now ≡ was ++ text x →
      was ++ joined text (drop i xs) ≡ whole → now ++ joined text (drop (i + 1) xs) ≡ whole
  joined_turn x was now whole lt is p inv =
      ap (λ l. l ++ joined text (drop (i + 1) xs)) p
      ∙ append_assoc was (text x) (joined text (drop (i + 1) xs))
      ∙ ap (λ y. was ++ (text y ++ joined text (drop (i + 1) xs))) is
      ∙ ap (λ l. was ++ l) (sym (at_drop_more (joined text) xs i x lt))
      ∙ inv

  -- all items are printed
  pub joined_done : (was whole : List ℕ) → length xs ≤ i → was ++ joined text (drop i xs) ≡ whole → was ≡ whole
  joined_done was whole le inv = sym (append-nil was) ∙ ap (λ l. was ++ l) (sym (at_drop_all (joined text) xs i le)) ∙ inv

module _ {X : Type 0} (text : X → List ℕ) (xs : List X) where
  -- the first item is printed, and the rest is left
  pub joined_first : (x : X) (was now whole : List ℕ) → 0 < length xs → x ≡ get_or xs 0 x → now ≡ was ++ text x →
      was ++ joined text xs ≡ whole → now ++ joined text (between 1 (length xs) xs) ≡ whole
  joined_first x was now whole some is p inv =
      ap (λ l. l ++ joined text (between 1 (length xs) xs)) p
      ∙ append_assoc was (text x) (joined text (between 1 (length xs) xs))
      ∙ ap (λ y. was ++ (text y ++ joined text (between 1 (length xs) xs))) is
      ∙ ap (λ l. was ++ joined text l) (sym (first_rest xs x some))
      ∙ inv

  -- no item is left
  pub joined_none : (was whole : List ℕ) → length xs ≡ 0 → was ++ joined text xs ≡ whole → was ≡ whole
  joined_none was whole none inv = sym (append-nil was) ∙ ap (λ l. was ++ joined text l) (sym (no_items xs none)) ∙ inv
    where
      no_items : {X : Type 0} (xs : List X) → length xs ≡ 0 → xs ≡ []
      no_items [] none = refl
      no_items (x ∷ xs) none = absurd (omega arith)

-- three texts that are printed one after another
pub three_parts : (was a b now x y z : List ℕ) → a ≡ was ++ x → b ≡ a ++ y → now ≡ b ++ z → now ≡ was ++ (x ++ (y ++ z))
three_parts was a b now x y z e f g =
    g ∙ ap (λ l. l ++ z) (f ∙ ap (λ l. l ++ y) e) ∙ append_assoc (was ++ x) y z ∙ append_assoc was x (y ++ z)

-- no more lines than a ledger has
take_fewer : {X : Type 0} (n : ℕ) (xs : List X) → take (min n (length xs)) xs ≡ take n xs
take_fewer n xs = by n xs (either n (length xs))
  where
    either : (m n : ℕ) → (min m n ≡ m) ⊎ ((min m n ≡ n) × (n ≤ m))
    either m n = grind arith

    by : {X : Type 0} (n : ℕ) (xs : List X) → (min n (length xs) ≡ n) ⊎ ((min n (length xs) ≡ length xs) × (length xs ≤ n)) → take (min n (length xs)) xs ≡ take n xs
    by n xs (inl e) = ap (λ k. take k xs) e
    by n xs (inr e) = ap (λ k. take k xs) e.0 ∙ take_all (length xs) xs (omega arith) ∙ sym (take_all n xs e.1)

-- the three parts of a report
pub report_parts : {K E Op Answer : Type 0} (key : K → List ℕ) (element : E → List ℕ) (op : Op → List ℕ) (answer : Answer → List ℕ)
    (was a b now : List ℕ) (keys keys' : List K) (elements elements' : List E) (ledger lines : List (Line Op Answer)) (written : ℕ) →
    a ≡ was ++ list_text key (codes "nest") keys' → keys' ≡ keys → b ≡ a ++ list_text element (codes "line") elements' → elements' ≡ elements →
    now ≡ b ++ joined (on_line (entry_text op answer)) lines → lines ≡ take (min written (length ledger)) ledger →
    now ≡ was ++ report_text key element op answer keys elements (take written ledger)
report_parts key element op answer was a b now keys keys' elements elements' ledger lines written e is-keys f is-elements g is-lines =
    three_parts was a b now (list_text key (codes "nest") keys) (list_text element (codes "line") elements) (joined (on_line (entry_text op answer)) (take written ledger))
    (e ∙ ap (λ l. was ++ list_text key (codes "nest") l) is-keys) (f ∙ ap (λ l. a ++ list_text element (codes "line") l) is-elements)
    (g ∙ ap (λ l. b ++ joined (on_line (entry_text op answer)) l) (is-lines ∙ take_fewer written ledger))
