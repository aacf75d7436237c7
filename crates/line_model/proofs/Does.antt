-- A touch that counts does what the plain line does, and any other touch leaves the contents as they are.
use Rattle.std.proofs.Common.{◌≡◌, ℕ, suc, ◌-◌, Bool, true, false, eqb, List, [], ◌∷◌, ◌++◌, set, Some, None, Option, sym, refl, ap, ◌∙◌, subst, arith}
use Rattle.std.proofs.lemmas.Bool.{eqb-true}
use Rattle.plain_model.specs.declared.line_op.LineOp.TheVariants.{Put, Take}
use Rattle.plain_model.specs.declared.line_op.LineAnswer.{LineAnswer}
use Rattle.plain_model.specs.declared.line_op.LineAnswer.TheVariants as answer
use Rattle.plain_model.specs.Line.{line, apply, taken as answered}
use Rattle.boards.specs.declared.outcome.Outcome.{Outcome}
use Rattle.boards.specs.declared.outcome.Outcome.TheVariants as told
use Rattle.boards.specs.declared.station.Station.TheVariants as station
use Rattle.boards.specs.Board.{is_waiting}
use Rattle.boards.specs.Laws.{Touched, goes_uncounted, counts, counts_ready, readies}
use Rattle.line_model.specs.declared.seat.Seat.{Seat}
use Rattle.line_model.specs.declared.seat.Seat.TheVariants.{Free, E1, E2, E3, E4, E5, E6, D1, D2, D3, D4, D5, Ready}
use Rattle.line_model.specs.Nodes.{next_of, element_of, link}
use Rattle.line_model.specs.Seats.{seat_of, station_of, is_free_seat}
use Rattle.line_model.specs.Line.{LineModel, After, act, after_e3, after_e4, after_d3, after_d5}
use Rattle.line_model.specs.Meaning.{after, prepend, contents}
use Rattle.line_model.specs.Sound.{Chain, Seated, Sound}
use Rattle.line_model.proofs.Walk.{next_rank, none_last, room, chain_in, element_there, after_none, after_some, walk_bounds, walk_link}
use Rattle.line_model.proofs.Chains.{chain_link}
use Rattle.line_model.proofs.Seats.{seat_there, seat_same}
use Rattle.line_model.proofs.Distances.{no_wait}

module _ {E : Type 0} where
  takes : (o : Option E) (e : E) (was now : List E) → o ≡ Some e → was ≡ prepend o now → apply Take was ≡ (now, answered o)
  takes o e was now f q =
      let z : was ≡ e ∷ now = q ∙ ap (λ (x : Option E). prepend x now) f in
      subst (λ (x : Option E). apply Take was ≡ (now, answered x)) (sym f) (subst (λ (xs : List E). apply Take xs ≡ (now, answer.Took e)) (sym z) refl)

  module _ (m : LineModel E) (w : Sound m) (p : ℕ) where
    abbrev At : Seat E → Type 0
    At = Seated m.nodes m.taken w.rank (w.rank m.head) (w.rank m.tail)

    abbrev C : Chain m.nodes m.taken m.head m.tail w.rank w.last
    C = w.chain

    -- the touch writes the seat s'
    told_of : (s : Seat E) → seat_of m.seats p ≡ s → is_free_seat s ≡ false → (s' : Seat E) (was now : List E) (o : Outcome) (a : Option (LineAnswer E)) →
        Touched line was now (station_of s) (station_of s') o a →
        Touched line was now (station_of s) (station_of (seat_of (set m.seats (p - 1) s') p)) o a
    told_of s at busy s' was now o a =
        let h = seat_there m.seats p (ap is_free_seat at ∙ busy) in
        subst (λ u. Touched line was now (station_of s) (station_of u) o a) (sym (seat_same m.seats p s' h.0 h.1))

    put_contents : (e : E) (own end : ℕ) → At (E4 e own end) → next_of m.nodes end ≡ None →
        after m.taken (link m.nodes end own) m.head ≡ after m.taken m.nodes m.head ++ (e ∷ [])
    put_contents e own end x d =
        let r = room (chain_link C e own end x.0 x.1 d) in
        let n : m.taken ≡ suc (m.taken - 1) = omega arith in
        ap (λ k. after k (link m.nodes end own) m.head) n
        ∙ walk_link C e own end x.0 x.1.on (none_last C end x.1.on d) (m.taken - 1) m.head C.head_on (omega (arith, C.head_on))
        ∙ ap (λ xs. xs ++ (e ∷ [])) (walk_bounds C (m.taken - 1) m.taken m.head C.head_on (omega (arith, C.head_on)) (omega arith))

    no_contents : (first end : ℕ) (n : Option (Option ℕ)) → At (D3 first end n) → next_of m.nodes first ≡ None → contents m ≡ []
    no_contents first end n x d =
        let l = none_last C first x.0.on d in
        let q : first ≡ m.head = C.only first m.head x.0.on (omega (arith, x.0.upto, C.most m.head)) in
        after_none m.taken m.nodes m.head (ap (next_of m.nodes) (sym q) ∙ d)

    take_contents : (first end n : ℕ) → At (D5 first end n) → eqb m.head first ≡ true →
        after m.taken m.nodes m.head ≡ prepend (element_of m.nodes n) (after m.taken m.nodes n)
    take_contents first end b x t =
        let q = eqb-true m.head first t in
        let r = next_rank C first b x.0.on x.1 in
        let l = room C in let k = C.most b in
        let n : m.taken ≡ suc (m.taken - 1) = omega arith in
        ap (λ j. after j m.nodes m.head) n
        ∙ after_some (m.taken - 1) m.nodes m.head b (ap (next_of m.nodes) q ∙ x.1)
        ∙ ap (prepend (element_of m.nodes b)) (walk_bounds C (m.taken - 1) m.taken b (omega arith) (omega arith) (omega arith))

    abbrev Does : Seat E → After E → Type 0
    Does s r = Touched line (contents m) (contents r.0) (station_of s) (station_of (seat_of r.0.seats p)) r.1.0 r.1.1

    e3_does : (e : E) (own end : ℕ) (n : Option ℕ) (t : Bool) →
        Touched line (contents m) (contents m) (station.Uncounted (Put e)) (station_of (after_e3 e own end n t)) told.Going None
    e3_does e own end n false = goes_uncounted refl
    e3_does e own end None true = goes_uncounted refl
    e3_does e own end (Some b) true = goes_uncounted refl

    e4_does : (e : E) (own end : ℕ) → seat_of m.seats p ≡ E4 e own end → At (E4 e own end) → (n : Option ℕ) → next_of m.nodes end ≡ n → Does (E4 e own end) (after_e4 m p e own end n)
    e4_does e own end at x None d = told_of (E4 e own end) at refl (E6 e own end) _ _ _ _ (counts (ap (λ xs. (xs, answer.Put)) (sym (put_contents e own end x d))))
    e4_does e own end at x (Some b) d = told_of (E4 e own end) at refl (E1 e own (Some end) (Some None)) _ _ _ _ (goes_uncounted refl)

    d3_does : (first end : ℕ) (o : Option (Option ℕ)) → seat_of m.seats p ≡ D3 first end o → At (D3 first end o) →
        (t : Bool) (n : Option ℕ) → next_of m.nodes first ≡ n → Does (D3 first end o) (after_d3 m p first end t n)
    d3_does first end o at x true None d =
        told_of (D3 first end o) at refl (Ready Take answer.Empty) _ _ _ _ (counts_ready (subst (λ xs. apply Take xs ≡ (xs, answer.Empty)) (sym (no_contents first end o x d)) refl))
    d3_does first end o at x true (Some b) d = told_of (D3 first end o) at refl (D4 first end b) _ _ _ _ (goes_uncounted refl)
    d3_does first end o at x false None d = told_of (D3 first end o) at refl (D1 (Some first) (Some end) (Some None)) _ _ _ _ (goes_uncounted refl)
    d3_does first end o at x false (Some b) d = told_of (D3 first end o) at refl (D5 first end b) _ _ _ _ (goes_uncounted refl)

    d5_does : (first end n : ℕ) → seat_of m.seats p ≡ D5 first end n → At (D5 first end n) → (t : Bool) → eqb m.head first ≡ t → Does (D5 first end n) (after_d5 m p first end n t)
    d5_does first end n at x true t =
        let y = element_there m.nodes n (chain_in C n (omega (arith, next_rank C first n x.0.on x.1))) in
        told_of (D5 first end n) at refl (Ready Take (answered (element_of m.nodes n))) _ _ _ _
        (counts_ready (takes (element_of m.nodes n) y.0 _ _ y.1 (take_contents first end n x t)))
    d5_does first end n at x false t = told_of (D5 first end n) at refl (D1 (Some first) (Some end) (Some (Some n))) _ _ _ _ (goes_uncounted refl)

    act_does : (s : Seat E) → seat_of m.seats p ≡ s → At s → is_waiting (station_of s) ≡ true → Does s (act m p s)
    act_does Free at x f = absurd (no_wait f)
    act_does (E1 e own end n) at x f = told_of (E1 e own end n) at refl (E2 e own m.tail n) _ _ _ _ (goes_uncounted refl)
    act_does (E2 e own end n) at x f = told_of (E2 e own end n) at refl (E3 e own end (next_of m.nodes end)) _ _ _ _ (goes_uncounted refl)
    act_does (E3 e own end n) at x f = told_of (E3 e own end n) at refl (after_e3 e own end n (eqb m.tail end)) _ _ _ _ (e3_does e own end n (eqb m.tail end))
    act_does (E4 e own end) at x f = e4_does e own end at x (next_of m.nodes end) refl
    act_does (E5 e own end n) at x f = told_of (E5 e own end n) at refl (E1 e own (Some end) (Some (Some n))) _ _ _ _ (goes_uncounted refl)
    act_does (E6 e own end) at x f = told_of (E6 e own end) at refl (Ready (Put e) answer.Put) _ _ _ _ (readies refl)
    act_does (D1 first end n) at x f = told_of (D1 first end n) at refl (D2 m.head end n) _ _ _ _ (goes_uncounted refl)
    act_does (D2 first end n) at x f = told_of (D2 first end n) at refl (D3 first m.tail n) _ _ _ _ (goes_uncounted refl)
    act_does (D3 first end n) at x f = d3_does first end n at x (eqb first end) (next_of m.nodes first) refl
    act_does (D4 first end n) at x f = told_of (D4 first end n) at refl (D1 (Some first) (Some end) (Some (Some n))) _ _ _ _ (goes_uncounted refl)
    act_does (D5 first end n) at x f = d5_does first end n at x (eqb m.head first) refl
    act_does (Ready o a) at x f = absurd (no_wait f)

    pub touch_does : is_waiting (station_of (seat_of m.seats p)) ≡ true → Does (seat_of m.seats p) (act m p (seat_of m.seats p))
    touch_does = act_does (seat_of m.seats p) refl (w.seated p)
