-- What a write of one node makes of the node table: its bounds, and the compare-and-set of a next cell.
use Rattle.std.proofs.Common.{◌≡◌, ℕ, zero, suc, Bool, true, false, cond, not, eqb, List, [], ◌∷◌, length, set, Some, None, Option, sym, refl, ap, ◌∙◌, inl, inr}
use lib.Seq.{set_out}
use Rattle.std.specs.List.{slice_get}
use Rattle.std.specs.Option.{option_eq}
use Rattle.std.proofs.lemmas.Bool.{cases_eq, cases_lt}
use Rattle.line_model.specs.declared.node.Node.{Node}
use Rattle.line_model.specs.Nodes.{is_node, next_in, next_of, toward}
use Rattle.line_model.specs.Within.{in_next}
use Rattle.line_model.specs.Line.{LineModel, next_set}
use Rattle.line_model.proofs.Lists.{nth_set_same, nth_set_other, changed_set}

-- what stands at a place, written there again
set_back : {X : Type 0} (xs : List X) (i : ℕ) (x : X) → slice_get xs i ≡ Some x → set xs i x ≡ xs
set_back [] i x e = refl
set_back {X = X} (y ∷ xs) zero x e = let z : y ≡ x = cc in ap (λ (u : X). u ∷ xs) (sym z)
set_back {X = X} (y ∷ xs) (suc i) x e = ap (λ (zs : List X). y ∷ zs) (set_back xs i x e)

-- a cell is told to be none by its equality with none
pub is_none_eq : (o : Option ℕ) → option_eq eqb o None ≡ not (is_node o)
is_none_eq None = refl
is_none_eq (Some b) = refl

-- what a cell holds after a compare-and-set is in bounds
pub cell_within : (k b : ℕ) (y c : Option ℕ) (t : Bool) → c ≡ cond t (Some b) y → in_next k (Some b) ≡ true → in_next k y ≡ true → in_next k c ≡ true
cell_within k b y c true e h j = ap (in_next k) e ∙ h
cell_within k b y c false e h j = ap (in_next k) e ∙ j

module _ {E : Type 0} where
  pub set_within : (k : ℕ) (ns : List (Node E)) (i : ℕ) (x : Node E) → ((a : ℕ) → in_next k (next_of ns a) ≡ true) → in_next k x.next ≡ true →
      (a : ℕ) → in_next k (next_of (set ns i x) a) ≡ true
  set_within k ns i x f h a = elim (cases_lt i (length ns)) [
    | inl l ↦ elim (cases_eq a i) [
      | inl e ↦ ap (λ (b : ℕ). in_next k (next_of (set ns i x) b)) e ∙ ap (λ (o : Option (Node E)). in_next k (next_in o)) (nth_set_same ns i x l) ∙ h
      | inr n ↦ ap (λ (o : Option (Node E)). in_next k (next_in o)) (nth_set_other ns i a x n) ∙ f a
    ]
    | inr l ↦ ap (λ (xs : List (Node E)). in_next k (next_of xs a)) (set_out ns i x l) ∙ f a
  ]

  abbrev pub with_nodes : LineModel E → List (Node E) → LineModel E
  with_nodes m ns = record { nodes = ns; taken = m.taken; head = m.head; tail = m.tail; seats = m.seats }

  -- Node a's next cell was x's, and holds c after the compare-and-set that told t.
  pub set_next : (m : LineModel E) (a b : ℕ) (x : Node E) (c : Option ℕ) (t : Bool) → slice_get m.nodes a ≡ Some x →
      t ≡ not (is_node x.next) → c ≡ cond t (Some b) x.next →
      with_nodes m (set m.nodes a (toward c x)) ≡ next_set m a b (next_of m.nodes a)
  set_next m a b x c t r told left = go x.next refl told left
    where
      go : (y : Option ℕ) → x.next ≡ y → t ≡ not (is_node y) → c ≡ cond t (Some b) y → with_nodes m (set m.nodes a (toward c x)) ≡ next_set m a b (next_of m.nodes a)
      go None e told left =
          let z : c ≡ Some b = left ∙ ap (λ (u : Bool). cond u (Some b) None) told in
          ap (λ (u : Option ℕ). with_nodes m (set m.nodes a (toward u x))) z
          ∙ ap (with_nodes m) (changed_set (toward (Some b)) m.nodes a x r)
          ∙ sym (ap (next_set m a b) (ap next_in r ∙ e))
      go (Some d) e told left =
          let z : c ≡ x.next = left ∙ ap (λ (u : Bool). cond u (Some b) (Some d)) told ∙ sym e in
          ap (λ (u : Option ℕ). with_nodes m (set m.nodes a (toward u x))) z
          ∙ ap (with_nodes m) (set_back m.nodes a x r)
          ∙ sym (ap (next_set m a b) (ap next_in r ∙ e))
