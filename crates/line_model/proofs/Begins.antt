-- The laws of begin.
use Rattle.std.proofs.Common.{◌≡◌, ℕ, ◌+◌, ◌<◌, ◌≤◌, true, ◌&&◌, leb, ◌≢◌, List, length, Some, None, sym, refl, ap, ◌∙◌, arith}
use Rattle.std.proofs.lemmas.Bool.{leb-true, ltb-true, and_parts, cond_both, cond-true}
use Rattle.plain_model.specs.declared.line_op.LineOp.{LineOp}
use Rattle.plain_model.specs.declared.line_op.LineOp.TheVariants.{Put, Take}
use Rattle.boards.specs.declared.station.Station.TheVariants as station
use Rattle.boards.specs.Laws.{KeepsOthers}
use Rattle.line_model.specs.declared.node.Node.{Node}
use Rattle.line_model.specs.declared.seat.Seat.{Seat}
use Rattle.line_model.specs.declared.seat.Seat.TheVariants.{Free, E1, E2, E3, E4, E5, E6, D1, D2, D3, D4, D5, Ready}
use Rattle.line_model.specs.Nodes.{next_in, next_of}
use Rattle.line_model.specs.Seats.{seat_of, station_of, is_free_seat, own_of}
use Rattle.line_model.specs.Line.{LineModel, has_space, can_begin, started, begun}
use Rattle.line_model.specs.Distance.{needs}
use Rattle.line_model.specs.Meaning.{contents, means}
use Rattle.line_model.specs.Sound.{Chain, Seated, Sound}
use Rattle.line_model.proofs.Walk.{walk_agree, walk_bounds, room}
use Rattle.line_model.proofs.Chains.{never, step_sound, chain_fill, fill_agree, fill_next, fill_own, fill_owns, filled_in}
use Rattle.line_model.proofs.Seats.{seat_same, seat_other}
use Rattle.line_model.proofs.Others.{seat_others, same_others}

module _ {E : Type 0} where
  -- what a begin that is taken rests on
  record Can (m : LineModel E) (p : ℕ) (o : LineOp E) : Type 0 where
    lo : 1 ≤ p
    hi : p ≤ length m.seats
    space : has_space m o ≡ true

  can : (m : LineModel E) (p : ℕ) (o : LineOp E) → can_begin m p o ≡ true → Can m p o
  can m p o h =
      let a = and_parts (leb 1 p && leb p (length m.seats)) (is_free_seat (seat_of m.seats p) && has_space m o) h in
      let b = and_parts (leb 1 p) (leb p (length m.seats)) a.0 in
      let c = and_parts (is_free_seat (seat_of m.seats p)) (has_space m o) a.1 in
      record { lo = leb-true 1 p b.0; hi = leb-true p (length m.seats) b.1; space = c.1 }

  own_below : (ns : List (Node E)) (taken : ℕ) (rank : ℕ → ℕ) (h t : ℕ) (s : Seat E) (a : ℕ) → Seated ns taken rank h t s → own_of s ≡ Some a → a < taken
  own_below ns k rank h t Free a x y = absurd (never (Some a) (sym y) refl)
  own_below ns k rank h t (E1 e own end n) a x y = let z : own ≡ a = cc in omega (arith, x.below)
  own_below ns k rank h t (E2 e own end n) a x y = let z : own ≡ a = cc in omega (arith, x.0.below)
  own_below ns k rank h t (E3 e own end n) a x y = let z : own ≡ a = cc in omega (arith, x.0.below)
  own_below ns k rank h t (E4 e own end) a x y = let z : own ≡ a = cc in omega (arith, x.0.below)
  own_below ns k rank h t (E5 e own end n) a x y = let z : own ≡ a = cc in omega (arith, x.0.below)
  own_below ns k rank h t (E6 e own end) a x y = absurd (never (Some a) (sym y) refl)
  own_below ns k rank h t (D1 first end n) a x y = absurd (never (Some a) (sym y) refl)
  own_below ns k rank h t (D2 first end n) a x y = absurd (never (Some a) (sym y) refl)
  own_below ns k rank h t (D3 first end n) a x y = absurd (never (Some a) (sym y) refl)
  own_below ns k rank h t (D4 first end n) a x y = absurd (never (Some a) (sym y) refl)
  own_below ns k rank h t (D5 first end n) a x y = absurd (never (Some a) (sym y) refl)
  own_below ns k rank h t (Ready o b) a x y = absurd (never (Some a) (sym y) refl)

  -- the distance reads next cells of the chain alone
  needs_agree : (ns ns' : List (Node E)) (taken : ℕ) (rank : ℕ → ℕ) (h t r u : ℕ) (s : Seat E) → 1 ≤ rank t → Seated ns taken rank r u s →
      ((a : ℕ) → 1 ≤ rank a → next_of ns' a ≡ next_of ns a) → needs ns' h t s ≡ needs ns h t s
  needs_agree ns ns' k rank h t r u Free l x f = refl
  needs_agree ns ns' k rank h t r u (E1 e own end n) l x f = let a = f t l in cc
  needs_agree ns ns' k rank h t r u (E2 e own end n) l x f = let a = f t l in cc
  needs_agree ns ns' k rank h t r u (E3 e own end n) l x f = let a = f t l in let b = f end x.1.on in cc
  needs_agree ns ns' k rank h t r u (E4 e own end) l x f = let a = f t l in let b = f end x.1.on in cc
  needs_agree ns ns' k rank h t r u (E5 e own end n) l x f = let a = f t l in cc
  needs_agree ns ns' k rank h t r u (E6 e own end) l x f = refl
  needs_agree ns ns' k rank h t r u (D1 first end n) l x f = let a = f t l in cc
  needs_agree ns ns' k rank h t r u (D2 first end n) l x f = let a = f t l in cc
  needs_agree ns ns' k rank h t r u (D3 first end n) l x f = let a = f t l in let b = f first x.0.on in cc
  needs_agree ns ns' k rank h t r u (D4 first end n) l x f = let a = f t l in cc
  needs_agree ns ns' k rank h t r u (D5 first end n) l x f = let a = f t l in cc
  needs_agree ns ns' k rank h t r u (Ready o b) l x f = refl

  module _ (m : LineModel E) (w : Sound m) (p : ℕ) where
    abbrev C : Chain m.nodes m.taken m.head m.tail w.rank w.last
    C = w.chain

    tail_on : 1 ≤ w.rank m.tail
    tail_on = omega (arith, C.head_on, C.head_tail)

    started_sound : (o : LineOp E) → Can m p o → Sound (started m p o)
    started_sound (Put e) h =
        let k = ltb-true m.taken (length m.nodes) h.space in
        step_sound m w p (E1 e m.taken None None) (filled_in C e k) (m.taken + 1) m.head m.tail w.rank w.last h.lo h.hi
        (chain_fill C e k)
        (record { ranks = λ a _. refl; nexts = fill_next C e k; heads = omega arith; tails = omega arith })
        (λ q n f a _ v. fill_owns C e k f a v)
        (fill_own C e k)
        (λ a y q n z. let i : m.taken ≡ a = cc in omega (arith, own_below m.nodes m.taken w.rank (w.rank m.head) (w.rank m.tail) (seat_of m.seats q) a (w.seated q) z))
    started_sound Take h =
        step_sound m w p (D1 None None None) m.nodes m.taken m.head m.tail w.rank w.last h.lo h.hi C
        (record { ranks = λ a _. refl; nexts = λ a b _ x. x; heads = omega arith; tails = omega arith })
        (λ q n f a _ v. v) tt (λ a y. absurd (never (Some a) (sym y) refl))

    pub begin_sound : (o : LineOp E) → Sound (begun m p o).0
    begin_sound o = cond_both (can_begin m p o) (started m p o) m Sound (λ h. started_sound o (can m p o h)) (λ _. w)

    started_others : (o : LineOp E) → Can m p o → KeepsOthers means m (started m p o) p
    started_others (Put e) h = seat_others m (started m p (Put e)) p (E1 e m.taken None None) h.lo refl
    started_others Take h = seat_others m (started m p Take) p (D1 None None None) h.lo refl

    pub begin_others : (o : LineOp E) → KeepsOthers means m (begun m p o).0 p
    begin_others o = cond_both (can_begin m p o) (started m p o) m (λ k. KeepsOthers means m k p) (λ h. started_others o (can m p o h)) (λ _. same_others m p)

    started_distances : (o : LineOp E) → Can m p o → (q : ℕ) → q ≢ p → means.distance (started m p o) q ≡ means.distance m q
    started_distances (Put e) h q n =
        let k = ltb-true m.taken (length m.nodes) h.space in
        ap (needs (filled_in C e k) m.head m.tail) (seat_other m.seats p q (E1 e m.taken None None) h.lo n)
        ∙ needs_agree m.nodes (filled_in C e k) m.taken w.rank m.head m.tail (w.rank m.head) (w.rank m.tail) (seat_of m.seats q) tail_on (w.seated q)
        (λ a l. ap next_in (fill_agree C e k a (C.below a l)))
    started_distances Take h q n = ap (needs m.nodes m.head m.tail) (seat_other m.seats p q (D1 None None None) h.lo n)

    pub begin_distances : (o : LineOp E) → (q : ℕ) → q ≢ p → means.distance (begun m p o).0 q ≡ means.distance m q
    begin_distances o q n =
        cond_both (can_begin m p o) (started m p o) m (λ k. means.distance k q ≡ means.distance m q) (λ h. started_distances o (can m p o h) q n) (λ _. refl)

    started_contents : (o : LineOp E) → Can m p o → contents (started m p o) ≡ contents m
    started_contents (Put e) h =
        let k = ltb-true m.taken (length m.nodes) h.space in
        let r = room C in
        walk_agree C (filled_in C e k) (λ a l. fill_agree C e k a (C.below a l)) (m.taken + 1) m.head C.head_on
        ∙ walk_bounds C (m.taken + 1) m.taken m.head C.head_on (omega arith) (omega arith)
    started_contents Take h = refl

    pub begin_contents : (o : LineOp E) → contents (begun m p o).0 ≡ contents m
    begin_contents o = cond_both (can_begin m p o) (started m p o) m (λ k. contents k ≡ contents m) (λ h. started_contents o (can m p o h)) (λ _. refl)

    started_waits : (o : LineOp E) → Can m p o → station_of (seat_of (started m p o).seats p) ≡ station.Uncounted o
    started_waits (Put e) h = ap station_of (seat_same m.seats p (E1 e m.taken None None) h.lo h.hi)
    started_waits Take h = ap station_of (seat_same m.seats p (D1 None None None) h.lo h.hi)

    pub begin_waits : (o : LineOp E) → can_begin m p o ≡ true → station_of (seat_of (begun m p o).0.seats p) ≡ station.Uncounted o
    begin_waits o h = ap (λ k. station_of (seat_of k.seats p)) (cond-true (can_begin m p o) (started m p o) m h) ∙ started_waits o (can m p o h)
