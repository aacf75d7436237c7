-- The chain and the seats after each kind of write, and that a step which keeps them keeps the line sound.
use Rattle.std.proofs.Common.{◌≡◌, ℕ, suc, ◌+◌, ◌-◌, ◌<◌, ◌≤◌, true, cond, eqb, ◌≢◌, List, length, set, Some, None, Option, sym, refl, ap, ◌∙◌, subst, inl, inr, add-one, arith, length-set}
use Rattle.std.specs.List.{slice_get}
use Rattle.std.proofs.lemmas.Bool.{cases_eq, cond_both}
use Rattle.line_model.specs.declared.node.Node.{Node}
use Rattle.line_model.specs.declared.seat.Seat.{Seat}
use Rattle.line_model.specs.declared.seat.Seat.TheVariants.{Free, E1, E2, E3, E4, E5, E6, D1, D2, D3, D4, D5, Ready}
use Rattle.line_model.specs.Nodes.{next_in, element_in, next_of, link}
use Rattle.line_model.specs.Seats.{seat_of, own_of}
use Rattle.line_model.specs.Line.{LineModel}
use Rattle.line_model.specs.Sound.{Chain, Own, Linked, UpTo, Read, Seated, Sound}
use Rattle.line_model.proofs.Lists.{changed_length, nth_set_same, nth_set_other}
use Rattle.line_model.proofs.Ranks.{put, put_same, put_other, ranked_on, ranked_more}
use Rattle.line_model.proofs.Walk.{by_next, link_same, link_other, link_element, next_rank, none_last, chain_in}
use Rattle.line_model.proofs.Seats.{seat_same, seat_other}

pub never : {A : Type 0} {b : A} (o : Option A) → o ≡ None → o ≡ Some b → ⊥
never o p q = let z : ◌≡◌ {A = ℕ} 0 1 = cc in omega arith

module _ {E : Type 0} where
  module _ {ns : List (Node E)} {taken head tail : ℕ} {rank : ℕ → ℕ} {last : ℕ} (c : Chain ns taken head tail rank last) where
    chain_tail : (b : ℕ) → rank tail ≤ rank b → Chain ns taken head b rank last
    chain_tail b h = record {
      fits = c.fits;
      below = c.below;
      most = c.most;
      only = c.only;
      linked = c.linked;
      all = c.all;
      head_on = c.head_on;
      head_tail = omega (arith, c.head_tail);
      tail_last = omega (arith, c.tail_last);
    }

    -- after Tail's compare-and-set
    pub chain_set_tail : (a b : ℕ) → (eqb tail a ≡ true → rank tail ≤ rank b) →
        Chain ns taken head (cond (eqb tail a) b tail) rank last × (rank tail ≤ rank (cond (eqb tail a) b tail))
    chain_set_tail a b f =
        cond_both (eqb tail a) b tail (λ t. Chain ns taken head t rank last × (rank tail ≤ rank t))
        (λ e. (chain_tail b (f e), f e)) (λ _. (c, omega arith))

    pub chain_head : (b : ℕ) → 1 ≤ rank b → rank b ≤ rank tail → Chain ns taken b tail rank last
    chain_head b h k = record {
      fits = c.fits;
      below = c.below;
      most = c.most;
      only = c.only;
      linked = c.linked;
      all = c.all;
      head_on = h;
      head_tail = k;
      tail_last = c.tail_last;
    }

    -- after an own node is linked behind the last
    module _ (e : E) (own end : ℕ) (o : Own ns taken rank e own) (u : UpTo rank (rank tail) end) (d : next_of ns end ≡ None) where
      unfoldable pub rank' : ℕ → ℕ
      rank' = put rank own (suc last)

      at_own : rank' own ≡ suc last
      unfolding rank'
      at_own = put_same rank own (suc last)

      at_other : (a : ℕ) → a ≢ own → rank' a ≡ rank a
      unfolding rank'
      at_other a n = put_other rank own (suc last) a n

      pub link_kept : (a : ℕ) → 1 ≤ rank a → rank' a ≡ rank a
      link_kept a h = at_other a (λ q. let z = ap rank q in omega (arith, o.off))

      end_last : rank end ≡ last
      end_last = none_last c end u.on d

      end_in : end < length ns
      end_in = chain_in c end u.on

      end_not : end ≢ own
      end_not q = let z = ap rank q in omega (arith, o.off, u.on)

      pub chain_link : Chain (link ns end own) taken head tail rank' (suc last)
      unfolding rank'
      chain_link = record {
        fits = simp changed_length c.fits;
        below = λ a h. elim (cases_eq a own) [ inl q ↦ omega (arith, q, o.below) | inr n ↦ c.below a (omega (arith, at_other a n)) ];
        most = λ a. elim (cases_eq a own) [ inl q ↦ let z = ap rank' q in omega (arith, at_own) | inr n ↦ omega (arith, at_other a n, c.most a) ];
        only = λ a b h q. elim (cases_eq a own) [
          | inl x ↦ elim (cases_eq b own) [ inl y ↦ x ∙ sym y | inr y ↦ let z = ap rank' x in absurd (omega (arith, at_own, at_other b y, c.most b)) ]
          | inr x ↦ elim (cases_eq b own) [
            | inl y ↦ let z = ap rank' y in absurd (omega (arith, at_own, at_other a x, c.most a))
            | inr y ↦ c.only a b (omega (arith, at_other a x)) (omega (arith, at_other a x, at_other b y))
          ]
        ];
        linked = λ a h. elim (cases_eq a own) [
          | inl q ↦ subst (Linked rank' (suc last) (rank' a)) (sym (ap (next_of (link ns end own)) q ∙ link_other ns end own own (λ z. end_not (sym z)) ∙ o.next)) (ap rank' q ∙ at_own)
          | inr n ↦ elim (cases_eq a end) [
            | inl q ↦ subst (Linked rank' (suc last) (rank' a)) (sym (ap (next_of (link ns end own)) q ∙ link_same ns end own end_in))
                (let z = ap rank' q in omega (arith, at_own, at_other end end_not, end_last))
            | inr m ↦ subst (Linked rank' (suc last) (rank' a)) (sym (link_other ns end own a m)) (old a n m (omega (arith, at_other a n)))
          ]
        ];
        all = ranked_on rank own last taken o.below o.off ∙ ap suc c.all;
        head_on = omega (arith, link_kept head c.head_on, c.head_on);
        head_tail = omega (arith, link_kept head c.head_on, link_kept tail (omega (arith, c.head_on, c.head_tail)), c.head_tail);
        tail_last = omega (arith, link_kept tail (omega (arith, c.head_on, c.head_tail)), end_last, u.upto);
      }
        where
          old : (a : ℕ) → a ≢ own → a ≢ end → 1 ≤ rank a → Linked rank' (suc last) (rank' a) (next_of ns a)
          old a n m h =
              by_next (next_of ns a)
              (λ x. absurd (m (c.only a end h (omega (arith, none_last c a h x, end_last)))))
              (λ b x. let r = next_rank c a b h x in
              subst (Linked rank' (suc last) (rank' a)) (sym x) (omega (arith, link_kept b (omega arith), at_other a n, r)))

      pub link_own : (f : E) (a : ℕ) → a ≢ own → Own ns taken rank f a → Own (link ns end own) taken rank' f a
      link_own f a n w = record {
        off = at_other a n ∙ w.off;
        below = w.below;
        next = link_other ns end own a (λ q. let z = ap rank q in omega (arith, w.off, u.on)) ∙ w.next;
        element = link_element ns end own a end_in ∙ w.element;
      }

      pub link_next : (a b : ℕ) → 1 ≤ rank a → next_of ns a ≡ Some b → next_of (link ns end own) a ≡ Some b
      link_next a b _ x = link_other ns end own a (λ q. never (next_of ns end) d (ap (next_of ns) (sym q) ∙ x)) ∙ x

    -- after a put has taken a node
    module _ (e : E) (space : taken < length ns) where
      abbrev own_node : Node E
      own_node = record { element = e; next = None }

      abbrev pub filled_in : List (Node E)
      filled_in = set ns taken own_node

      unused : rank taken ≡ 0
      unused = elim (cases_eq (rank taken) 0) [ inl z ↦ z | inr n ↦ absurd (omega (arith, c.below taken (omega arith))) ]

      pub fill_agree : (a : ℕ) → a < taken → slice_get filled_in a ≡ slice_get ns a
      fill_agree a h = nth_set_other ns taken a own_node (omega arith)

      pub chain_fill : Chain filled_in (taken + 1) head tail rank last
      chain_fill = record {
        fits = simp length-set (omega arith);
        below = λ a h. omega (arith, c.below a h);
        most = c.most;
        only = c.only;
        linked = λ a h. subst (Linked rank last (rank a)) (sym (ap next_in (fill_agree a (c.below a h)))) (c.linked a h);
        all = rw add-one (ranked_more rank taken unused ∙ c.all);
        head_on = c.head_on;
        head_tail = c.head_tail;
        tail_last = c.tail_last;
      }

      pub fill_own : Own filled_in (taken + 1) rank e taken
      fill_own = record {
        off = unused;
        below = omega arith;
        next = ap next_in (nth_set_same ns taken own_node space);
        element = ap element_in (nth_set_same ns taken own_node space);
      }

      pub fill_owns : (f : E) (a : ℕ) → Own ns taken rank f a → Own filled_in (taken + 1) rank f a
      fill_owns f a w = record {
        off = w.off;
        below = omega (arith, w.below);
        next = ap next_in (fill_agree a w.below) ∙ w.next;
        element = ap element_in (fill_agree a w.below) ∙ w.element;
      }

      pub fill_next : (a b : ℕ) → 1 ≤ rank a → next_of ns a ≡ Some b → next_of filled_in a ≡ Some b
      fill_next a b h x = ap next_in (fill_agree a (c.below a h)) ∙ x

  -- what a write leaves as it was
  pub record Grows (ns ns' : List (Node E)) (rank rank' : ℕ → ℕ) (h h' t t' : ℕ) : Type 0 where
    pub ranks : (a : ℕ) → 1 ≤ rank a → rank' a ≡ rank a
    pub nexts : (a b : ℕ) → 1 ≤ rank a → next_of ns a ≡ Some b → next_of ns' a ≡ Some b
    pub heads : h ≤ h'
    pub tails : t ≤ t'

  module _ {ns ns' : List (Node E)} {rank rank' : ℕ → ℕ} {h h' t t' : ℕ} (g : Grows ns ns' rank rank' h h' t t') where
    up : (r r' a : ℕ) → r ≤ r' → UpTo rank r a → UpTo rank' r' a
    up r r' a l u = record { on = omega (arith, g.ranks a u.on, u.on); upto = omega (arith, g.ranks a u.on, u.upto) }

    reads : (a : ℕ) (n : Option ℕ) → 1 ≤ rank a → Read ns a n → Read ns' a n
    reads a None h r = tt
    reads a (Some b) h r = g.nexts a b h r

    -- what holds of a seat goes on holding, if its own node is kept
    pub seated_grows : (taken taken' : ℕ) (s : Seat E) → ((e : E) (a : ℕ) → own_of s ≡ Some a → Own ns taken rank e a → Own ns' taken' rank' e a) →
        Seated ns taken rank h t s → Seated ns' taken' rank' h' t' s
    seated_grows k k' Free f x = tt
    seated_grows k k' (E1 e own end n) f x = f e own refl x
    seated_grows k k' (E2 e own end n) f x = (f e own refl x.0, up t t' end g.tails x.1)
    seated_grows k k' (E3 e own end n) f x = (f e own refl x.0, up t t' end g.tails x.1, reads end n x.1.on x.2)
    seated_grows k k' (E4 e own end) f x = (f e own refl x.0, up t t' end g.tails x.1)
    seated_grows k k' (E5 e own end n) f x = (f e own refl x.0, up t t' end g.tails x.1, g.nexts end n x.1.on x.2)
    seated_grows k k' (E6 e own end) f x = (up t t' end g.tails x.0, g.nexts end own x.0.on x.1)
    seated_grows k k' (D1 first end n) f x = tt
    seated_grows k k' (D2 first end n) f x = up h h' first g.heads x
    seated_grows k k' (D3 first end n) f x =
        (up h h' first g.heads x.0, up t t' end g.tails x.1, omega (arith, g.ranks first x.0.on, g.ranks end x.1.on, x.2))
    seated_grows k k' (D4 first end n) f x = (up t t' end g.tails x.0, g.nexts end n x.0.on x.1)
    seated_grows k k' (D5 first end n) f x =
        (up h h' first g.heads x.0, g.nexts first n x.0.on x.1, omega (arith, g.ranks first x.0.on, x.2, g.tails))
    seated_grows k k' (Ready o a) f x = tt

  -- a step of station p keeps the line sound
  pub step_sound : (m : LineModel E) (w : Sound m) (p : ℕ) (s : Seat E) (ns' : List (Node E)) (taken' head' tail' : ℕ) (rank' : ℕ → ℕ) (last' : ℕ) →
      1 ≤ p → p ≤ length m.seats →
      Chain ns' taken' head' tail' rank' last' →
      Grows m.nodes ns' w.rank rank' (w.rank m.head) (rank' head') (w.rank m.tail) (rank' tail') →
      ((q : ℕ) → q ≢ p → (e : E) (a : ℕ) → own_of (seat_of m.seats q) ≡ Some a → Own m.nodes m.taken w.rank e a → Own ns' taken' rank' e a) →
      Seated ns' taken' rank' (rank' head') (rank' tail') s →
      ((a : ℕ) → own_of s ≡ Some a → (q : ℕ) → q ≢ p → own_of (seat_of m.seats q) ≡ Some a → ⊥) →
      Sound (record { nodes = ns'; taken = taken'; head = head'; tail = tail'; seats = set m.seats (p - 1) s })
  step_sound m w p s ns' taken' head' tail' rank' last' lo hi c g keep new fresh = record {
    some_seats = simp length-set w.some_seats;
    few_seats = simp length-set w.few_seats;
    rank = rank';
    last = last';
    chain = c;
    seated = λ q. elim (cases_eq q p) [
      | inl x ↦ subst (Seated ns' taken' rank' (rank' head') (rank' tail')) (sym (here q x)) new
      | inr n ↦ subst (Seated ns' taken' rank' (rank' head') (rank' tail')) (sym (seat_other m.seats p q s lo n))
          (seated_grows g m.taken taken' (seat_of m.seats q) (keep q n) (w.seated q))
    ];
    apart = λ q r a x y. elim (cases_eq q p) [
      | inl i ↦ elim (cases_eq r p) [
        | inl j ↦ i ∙ sym j
        | inr j ↦ absurd (fresh a (sym (ap own_of (here q i)) ∙ x) r j (sym (ap own_of (seat_other m.seats p r s lo j)) ∙ y))
      ]
      | inr i ↦ elim (cases_eq r p) [
        | inl j ↦ absurd (fresh a (sym (ap own_of (here r j)) ∙ y) q i (sym (ap own_of (seat_other m.seats p q s lo i)) ∙ x))
        | inr j ↦ w.apart q r a (sym (ap own_of (seat_other m.seats p q s lo i)) ∙ x) (sym (ap own_of (seat_other m.seats p r s lo j)) ∙ y)
      ]
    ];
  }
    where
      here : (q : ℕ) → q ≡ p → seat_of (set m.seats (p - 1) s) q ≡ s
      here q x = ap (seat_of (set m.seats (p - 1) s)) x ∙ seat_same m.seats p s lo hi
