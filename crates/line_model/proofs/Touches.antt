-- A touch keeps the line sound.
use Rattle.std.proofs.Common.{◌≡◌, ℕ, suc, ◌-◌, ◌<◌, ◌≤◌, Bool, true, false, cond, eqb, ◌≢◌, List, length, set, Some, None, Option, sym, refl, ap, ◌∙◌, subst, inl, inr, arith}
use Rattle.std.proofs.lemmas.Bool.{cases_eq, eqb-true, eqb-false}
use Rattle.plain_model.specs.declared.line_op.LineOp.TheVariants.{Put, Take}
use Rattle.plain_model.specs.declared.line_op.LineAnswer.TheVariants as answer
use Rattle.plain_model.specs.Line.{taken as answered}
use Rattle.line_model.specs.declared.node.Node.{Node}
use Rattle.line_model.specs.declared.seat.Seat.{Seat}
use Rattle.line_model.specs.declared.seat.Seat.TheVariants.{Free, E1, E2, E3, E4, E5, E6, D1, D2, D3, D4, D5, Ready}
use Rattle.line_model.specs.Nodes.{next_of, element_of, link}
use Rattle.line_model.specs.Seats.{seat_of, is_free_seat, own_of}
use Rattle.line_model.specs.Line.{LineModel, act, after_e3, after_e4, after_d3, after_d5}
use Rattle.line_model.specs.Sound.{Chain, Read, Seated, Sound}
use Rattle.line_model.proofs.Walk.{by_next, link_same, next_rank, chain_in}
use Rattle.line_model.proofs.Chains.{never, chain_set_tail, chain_head, rank', chain_link, link_kept, link_own, link_next, step_sound}
use Rattle.line_model.proofs.Seats.{seat_there}

module _ {E : Type 0} where
  read_next : (ns : List (Node E)) (a : ℕ) (n : Option ℕ) → next_of ns a ≡ n → Read ns a n
  read_next ns a None e = tt
  read_next ns a (Some b) e = e

  module _ (m : LineModel E) (w : Sound m) (p : ℕ) where
    abbrev At : Seat E → Type 0
    At = Seated m.nodes m.taken w.rank (w.rank m.head) (w.rank m.tail)

    abbrev C : Chain m.nodes m.taken m.head m.tail w.rank w.last
    C = w.chain

    tail_on : 1 ≤ w.rank m.tail
    tail_on = omega (arith, C.head_on, C.head_tail)

    module _ (s : Seat E) (at : seat_of m.seats p ≡ s) (busy : is_free_seat s ≡ false) where
      there : (1 ≤ p) × (p ≤ length m.seats)
      there = seat_there m.seats p (ap is_free_seat at ∙ busy)

      -- no other station has the own node of this one
      alone : (a : ℕ) → own_of s ≡ Some a → (q : ℕ) → q ≢ p → own_of (seat_of m.seats q) ≡ Some a → ⊥
      alone a x q n y = n (w.apart q p a y (ap own_of at ∙ x))

      -- Head or Tail may move on, and the seat changes
      moves : (s' : Seat E) (head' tail' : ℕ) → Chain m.nodes m.taken head' tail' w.rank w.last →
          w.rank m.head ≤ w.rank head' → w.rank m.tail ≤ w.rank tail' →
          Seated m.nodes m.taken w.rank (w.rank head') (w.rank tail') s' →
          ((a : ℕ) → own_of s' ≡ Some a → own_of s ≡ Some a) →
          Sound (record { nodes = m.nodes; taken = m.taken; head = head'; tail = tail'; seats = set m.seats (p - 1) s' })
      moves s' head' tail' c hs ts new same =
          step_sound m w p s' m.nodes m.taken head' tail' w.rank w.last there.0 there.1 c
          (record { ranks = λ a _. refl; nexts = λ a b _ x. x; heads = hs; tails = ts })
          (λ q n e a _ o. o) new (λ a x. alone a (same a x))

      -- the seat alone changes
      turns : (s' : Seat E) → At s' → ((a : ℕ) → own_of s' ≡ Some a → own_of s ≡ Some a) →
          Sound (record { nodes = m.nodes; taken = m.taken; head = m.head; tail = m.tail; seats = set m.seats (p - 1) s' })
      turns s' new same = moves s' m.head m.tail C (omega arith) (omega arith) new same

      -- Tail's compare-and-set from a node to its next
      swings : (s' : Seat E) (end b : ℕ) → 1 ≤ w.rank end → next_of m.nodes end ≡ Some b →
          ((t : ℕ) → Seated m.nodes m.taken w.rank (w.rank m.head) t s') →
          ((a : ℕ) → own_of s' ≡ Some a → own_of s ≡ Some a) →
          Sound (record { nodes = m.nodes; taken = m.taken; head = m.head; tail = cond (eqb m.tail end) b m.tail; seats = set m.seats (p - 1) s' })
      swings s' end b on d new same =
          let r = next_rank C end b on d in
          let c = chain_set_tail C end b (λ e. let z = ap w.rank (eqb-true m.tail end e) in omega arith) in
          moves s' m.head (cond (eqb m.tail end) b m.tail) c.0 (omega arith) c.1 (new (w.rank (cond (eqb m.tail end) b m.tail))) same

    -- at D3, first comes before end if it is not end
    pub first_before : (first end : ℕ) (n : Option (Option ℕ)) → At (D3 first end n) → eqb first end ≡ false → w.rank first < w.rank m.tail
    first_before first end n x t = elim (cases_eq (w.rank first) (w.rank end)) [
      | inl z ↦ absurd (eqb-false first end t (C.only first end x.0.on z))
      | inr n ↦ omega (arith, x.2, x.1.upto)
    ]

    e3_seated : (e : E) (own end : ℕ) (n : Option ℕ) (t : Bool) → At (E3 e own end n) → At (after_e3 e own end n t)
    e3_seated e own end n false x = x.0
    e3_seated e own end None true x = (x.0, x.1)
    e3_seated e own end (Some b) true x = x

    e3_own : (e : E) (own end : ℕ) (n : Option ℕ) (t : Bool) (a : ℕ) → own_of (after_e3 e own end n t) ≡ Some a → ◌≡◌ {A = Option ℕ} (Some own) (Some a)
    e3_own e own end n false a x = x
    e3_own e own end None true a x = x
    e3_own e own end (Some b) true a x = x

    -- E4's compare-and-set links the own node behind end
    links : (e : E) (own end : ℕ) → seat_of m.seats p ≡ E4 e own end → At (E4 e own end) → next_of m.nodes end ≡ None →
        Sound (after_e4 m p e own end None).0
    links e own end at x d =
        let o = x.0 in let u = x.1 in let h = there (E4 e own end) at refl in
        step_sound m w p (E6 e own end) (link m.nodes end own) m.taken m.head m.tail (rank' C e own end o u d) (suc w.last) h.0 h.1
        (chain_link C e own end o u d)
        (record {
          ranks = link_kept C e own end o u d;
          nexts = link_next C e own end o u d;
          heads = omega (arith, link_kept C e own end o u d m.head C.head_on);
          tails = omega (arith, link_kept C e own end o u d m.tail tail_on);
        })
        (λ q n f a y v. link_own C e own end o u d f a (λ z. alone (E4 e own end) at refl own refl q n (y ∙ ap {B = Option ℕ} Some z)) v) (
          record {
            on = omega (arith, link_kept C e own end o u d end u.on, u.on);
            upto = omega (arith, link_kept C e own end o u d end u.on, link_kept C e own end o u d m.tail tail_on, u.upto);
          },
          link_same m.nodes end own (chain_in C end u.on),
        )
        (λ a y. absurd (never (own_of (E6 e own end)) refl y))

    d3_sound : (first end : ℕ) (o : Option (Option ℕ)) → seat_of m.seats p ≡ D3 first end o → At (D3 first end o) →
        (t : Bool) (n : Option ℕ) → eqb first end ≡ t → next_of m.nodes first ≡ n → Sound (after_d3 m p first end t n).0
    d3_sound first end o at x true None t d = turns (D3 first end o) at refl (Ready Take answer.Empty) tt (λ a y. y)
    d3_sound first end o at x true (Some b) t d = turns (D3 first end o) at refl (D4 first end b) (x.1, ap (next_of m.nodes) (sym (eqb-true first end t)) ∙ d) (λ a y. y)
    d3_sound first end o at x false None t d = turns (D3 first end o) at refl (D1 (Some first) (Some end) (Some None)) tt (λ a y. y)
    d3_sound first end o at x false (Some b) t d = turns (D3 first end o) at refl (D5 first end b) (x.0, d, first_before first end o x t) (λ a y. y)

    d5_sound : (first end n : ℕ) → seat_of m.seats p ≡ D5 first end n → At (D5 first end n) → (t : Bool) → eqb m.head first ≡ t → Sound (after_d5 m p first end n t).0
    d5_sound first end n at x true t =
        let z = ap w.rank (eqb-true m.head first t) in
        let r = next_rank C first n x.0.on x.1 in
        moves (D5 first end n) at refl (Ready Take (answered (element_of m.nodes n))) n m.tail
        (chain_head C n (omega arith) (omega (arith, x.2))) (omega arith) (omega arith) tt (λ a y. y)
    d5_sound first end n at x false t = turns (D5 first end n) at refl (D1 (Some first) (Some end) (Some (Some n))) tt (λ a y. y)

    act_sound : (s : Seat E) → seat_of m.seats p ≡ s → At s → Sound (act m p s).0
    act_sound Free at x = w
    act_sound (E1 e own end n) at x = turns (E1 e own end n) at refl (E2 e own m.tail n) (x, record { on = tail_on; upto = omega arith }) (λ a y. y)
    act_sound (E2 e own end n) at x =
        turns (E2 e own end n) at refl (E3 e own end (next_of m.nodes end)) (x.0, x.1, read_next m.nodes end (next_of m.nodes end) refl) (λ a y. y)
    act_sound (E3 e own end n) at x =
        turns (E3 e own end n) at refl (after_e3 e own end n (eqb m.tail end)) (e3_seated e own end n (eqb m.tail end) x) (e3_own e own end n (eqb m.tail end))
    act_sound (E4 e own end) at x =
        by_next (next_of m.nodes end)
        (λ d. subst (λ n. Sound (after_e4 m p e own end n).0) (sym d) (links e own end at x d))
        (λ b d. subst (λ n. Sound (after_e4 m p e own end n).0) (sym d) (turns (E4 e own end) at refl (E1 e own (Some end) (Some None)) x.0 (λ a y. y)))
    act_sound (E5 e own end n) at x = swings (E5 e own end n) at refl (E1 e own (Some end) (Some (Some n))) end n x.1.on x.2 (λ t. x.0) (λ a y. y)
    act_sound (E6 e own end) at x = swings (E6 e own end) at refl (Ready (Put e) answer.Put) end own x.0.on x.1 (λ t. tt) (λ a y. y)
    act_sound (D1 first end n) at x = turns (D1 first end n) at refl (D2 m.head end n) (record { on = C.head_on; upto = omega arith }) (λ a y. y)
    act_sound (D2 first end n) at x =
        turns (D2 first end n) at refl (D3 first m.tail n) (x, record { on = tail_on; upto = omega arith }, omega (arith, x.upto, C.head_tail)) (λ a y. y)
    act_sound (D3 first end n) at x = d3_sound first end n at x (eqb first end) (next_of m.nodes first) refl refl
    act_sound (D4 first end n) at x = swings (D4 first end n) at refl (D1 (Some first) (Some end) (Some (Some n))) end n x.0.on x.1 (λ t. tt) (λ a y. y)
    act_sound (D5 first end n) at x = d5_sound first end n at x (eqb m.head first) refl
    act_sound (Ready o a) at x = w

    pub touch_sound : Sound (act m p (seat_of m.seats p)).0
    touch_sound = act_sound (seat_of m.seats p) refl (w.seated p)
