-- What the chain says of next cells, and what the walk along it gives.
use Rattle.std.proofs.Common.{◌≡◌, ℕ, zero, suc, ◌+◌, ◌<◌, ◌≤◌, ◌≢◌, List, [], ◌∷◌, ◌++◌, length, Some, None, Option, sym, refl, ap, ◌∙◌, subst, inl, inr, arith}
use Rattle.std.specs.List.{slice_get}
use Rattle.std.proofs.lemmas.Bool.{cases_eq}
use Rattle.line_model.specs.declared.node.Node.{Node}
use Rattle.line_model.specs.Nodes.{next_in, element_in, next_of, element_of, link, toward}
use Rattle.line_model.specs.Meaning.{after, prepend}
use Rattle.line_model.specs.Sound.{Chain, Own, Linked}
use Rattle.line_model.proofs.Lists.{nth_there, changed_same, changed_other}
use Rattle.line_model.proofs.Ranks.{ranked_most}

pub by_next : {P : Type 0} (o : Option ℕ) → (o ≡ None → P) → ((b : ℕ) → o ≡ Some b → P) → P
by_next None f g = f refl
by_next (Some b) f g = g b refl

module _ {E : Type 0} where
  -- a node of the table has an element
  pub element_there : (ns : List (Node E)) (a : ℕ) → a < length ns → (e : E) × (element_of ns a ≡ Some e)
  element_there ns a h = let x = nth_there ns a h in (x.0.element, ap element_in x.1)

  -- the node table after a link
  pub link_same : (ns : List (Node E)) (a b : ℕ) → a < length ns → next_of (link ns a b) a ≡ Some b
  link_same ns a b h = let x = nth_there ns a h in ap next_in (changed_same (toward (Some b)) ns a x.0 x.1)

  pub link_other : (ns : List (Node E)) (a b c : ℕ) → c ≢ a → next_of (link ns a b) c ≡ next_of ns c
  link_other ns a b c n = ap next_in (changed_other (toward (Some b)) ns a c n)

  pub link_element : (ns : List (Node E)) (a b c : ℕ) → a < length ns → element_of (link ns a b) c ≡ element_of ns c
  link_element ns a b c h = elim (cases_eq c a) [
    | inl e ↦ let x = nth_there ns a h in rw e (ap element_in (changed_same (toward (Some b)) ns a x.0 x.1) ∙ sym (ap element_in x.1))
    | inr n ↦ ap element_in (changed_other (toward (Some b)) ns a c n)
  ]

  prepend_append : (o : Option E) (xs ys : List E) → prepend o (xs ++ ys) ≡ prepend o xs ++ ys
  prepend_append None xs ys = refl
  prepend_append (Some e) xs ys = refl

  pub after_none : (k : ℕ) (ns : List (Node E)) (a : ℕ) → next_of ns a ≡ None → after k ns a ≡ []
  after_none zero ns a e = refl
  after_none (suc k) ns a e = rw (e, after)

  pub after_some : (k : ℕ) (ns : List (Node E)) (a b : ℕ) → next_of ns a ≡ Some b → after (suc k) ns a ≡ prepend (element_of ns b) (after k ns b)
  after_some k ns a b e = rw (e, after)

  pub after_few : (k : ℕ) (ns : List (Node E)) (a : ℕ) → length (after k ns a) ≤ k
  after_few zero ns a = omega arith
  after_few (suc k) ns a =
      let ih : (b : ℕ) → length (after k ns b) ≤ k = λ b. after_few k ns b in
      by_next (next_of ns a)
      (λ e. let n = ap length (after_none (suc k) ns a e) in omega arith)
      (λ b e. let n = ap length (after_some k ns a b e) in let h = few (element_of ns b) (after k ns b) in omega (arith, ih b))
    where
      few : (o : Option E) (xs : List E) → length (prepend o xs) ≤ suc (length xs)
      few None xs = omega arith
      few (Some e) xs = omega arith

  module _ {ns : List (Node E)} {taken head tail : ℕ} {rank : ℕ → ℕ} {last : ℕ} (c : Chain ns taken head tail rank last) where
    pub next_rank : (a b : ℕ) → 1 ≤ rank a → next_of ns a ≡ Some b → rank b ≡ suc (rank a)
    next_rank a b h e = subst (Linked rank last (rank a)) e (c.linked a h)

    pub none_last : (a : ℕ) → 1 ≤ rank a → next_of ns a ≡ None → rank a ≡ last
    none_last a h e = subst (Linked rank last (rank a)) e (c.linked a h)

    pub last_none : (a : ℕ) → 1 ≤ rank a → last ≤ rank a → next_of ns a ≡ None
    last_none a h l = by_next (next_of ns a) (λ e. e) (λ b e. absurd (omega (arith, c.most b, next_rank a b h e)))

    pub room : last ≤ taken
    room = omega (arith, c.all, ranked_most rank taken)

    pub chain_in : (a : ℕ) → 1 ≤ rank a → a < length ns
    chain_in a h = omega (arith, c.below a h, c.fits)

    -- any two bounds that suffice give the same
    pub walk_bounds : (k j a : ℕ) → 1 ≤ rank a → last ≤ rank a + k → last ≤ rank a + j → after k ns a ≡ after j ns a
    walk_bounds zero j a h x y = sym (after_none j ns a (last_none a h (omega arith)))
    walk_bounds (suc k) zero a h x y = after_none (suc k) ns a (last_none a h (omega arith))
    walk_bounds (suc k) (suc j) a h x y =
        let ih : (b : ℕ) → 1 ≤ rank b → last ≤ rank b + k → last ≤ rank b + j → after k ns b ≡ after j ns b = λ b. walk_bounds k j b in
        by_next (next_of ns a)
        (λ e. after_none (suc k) ns a e ∙ sym (after_none (suc j) ns a e))
        (λ b e. let r = next_rank a b h e in
        after_some k ns a b e ∙ ap (prepend (element_of ns b)) (ih b (omega arith) (omega arith) (omega arith)) ∙ sym (after_some j ns a b e))

    -- a table that agrees on the chain gives the same
    pub walk_agree : (ns' : List (Node E)) → ((a : ℕ) → 1 ≤ rank a → slice_get ns' a ≡ slice_get ns a) → (k a : ℕ) → 1 ≤ rank a → after k ns' a ≡ after k ns a
    walk_agree ns' f zero a h = refl
    walk_agree ns' f (suc k) a h =
        let ih : (b : ℕ) → 1 ≤ rank b → after k ns' b ≡ after k ns b = λ b. walk_agree ns' f k b in
        let same : next_of ns' a ≡ next_of ns a = ap next_in (f a h) in
        by_next (next_of ns a)
        (λ e. after_none (suc k) ns' a (same ∙ e) ∙ sym (after_none (suc k) ns a e))
        (λ b e. let r = next_rank a b h e in
        after_some k ns' a b (same ∙ e) ∙ ap (prepend (element_of ns' b)) (ih b (omega arith))
        ∙ ap (λ (n : Option (Node E)). prepend (element_in n) (after k ns b)) (f b (omega arith)) ∙ sym (after_some k ns a b e))

    -- one node more at the end
    module _ (e : E) (own end : ℕ) (o : Own ns taken rank e own) (on : 1 ≤ rank end) (lst : rank end ≡ last) where
      own_end : own ≢ end
      own_end q = let z = ap rank q in omega (arith, o.off)

      end_in : end < length ns
      end_in = chain_in end on

      own_none : next_of (link ns end own) own ≡ None
      own_none = link_other ns end own own own_end ∙ o.next

      at_end : (k a : ℕ) → a ≡ end → after (suc k) (link ns end own) a ≡ e ∷ []
      at_end k a q =
          after_some k (link ns end own) a own (ap (next_of (link ns end own)) q ∙ link_same ns end own end_in)
          ∙ ap (prepend (element_of (link ns end own) own)) (after_none k (link ns end own) own own_none)
          ∙ ap (λ x. prepend x []) (link_element ns end own own end_in ∙ o.element)

      pub walk_link : (k a : ℕ) → 1 ≤ rank a → last ≤ rank a + k → after (suc k) (link ns end own) a ≡ after k ns a ++ (e ∷ [])
      walk_link zero a h x = at_end 0 a (c.only a end h (omega (arith, c.most a)))
      walk_link (suc k) a h x =
          let ih : (b : ℕ) → 1 ≤ rank b → last ≤ rank b + k → after (suc k) (link ns end own) b ≡ after k ns b ++ (e ∷ []) = λ b. walk_link k b in
          by_next (next_of ns a)
          (λ d. at_end (suc k) a (c.only a end h (omega (arith, none_last a h d))) ∙ ap (λ xs. xs ++ (e ∷ [])) (sym (after_none (suc k) ns a d)))
          (λ b d. let r = next_rank a b h d in let l = c.most b in
          let ne : a ≢ end = λ q. let z = ap rank q in omega arith in
          after_some (suc k) (link ns end own) a b (link_other ns end own a ne ∙ d)
          ∙ ap (prepend (element_of (link ns end own) b)) (ih b (omega arith) (omega arith))
          ∙ ap (λ x. prepend x (after k ns b ++ (e ∷ []))) (link_element ns end own b end_in)
          ∙ prepend_append (element_of ns b) (after k ns b) (e ∷ [])
          ∙ ap (λ xs. xs ++ (e ∷ [])) (sym (after_some k ns a b d)))
