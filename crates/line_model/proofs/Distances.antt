-- The distance of a waiting station is between 1 and 11, and its own touch lowers it.
use Rattle.std.proofs.Common.{◌≡◌, ℕ, ◌-◌, ◌<◌, ◌≤◌, Bool, true, false, cond, eqb, List, set, Some, None, Option, sym, refl, ap, ◌∙◌, subst, arith}
use Rattle.std.proofs.lemmas.Bool.{eqb-true}
use Rattle.std.proofs.lemmas.Bool.Decides.{nat_tests}
use Rattle.plain_model.specs.declared.line_op.LineOp.TheVariants.{Put, Take}
use Rattle.plain_model.specs.declared.line_op.LineAnswer.TheVariants as answer
use Rattle.plain_model.specs.Line.{taken as answered}
use Rattle.boards.specs.Board.{is_waiting}
use Rattle.line_model.specs.declared.node.Node.{Node}
use Rattle.line_model.specs.declared.seat.Seat.{Seat}
use Rattle.line_model.specs.declared.seat.Seat.TheVariants.{Free, E1, E2, E3, E4, E5, E6, D1, D2, D3, D4, D5, Ready}
use Rattle.line_model.specs.Nodes.{next_of, element_of, link}
use Rattle.line_model.specs.Seats.{seat_of, station_of, is_free_seat}
use Rattle.line_model.specs.Line.{LineModel, act, after_e3, after_e4, after_d3, after_d5}
use Rattle.line_model.specs.Distance.{needs}
use Rattle.line_model.specs.Sound.{Chain, Seated, Sound}
use Rattle.line_model.proofs.Walk.{next_rank, none_last, last_none}
use Rattle.line_model.proofs.Seats.{seat_there, seat_same}
use Rattle.line_model.proofs.Touches.{first_before}

pub no_wait : false ≡ true → ⊥
no_wait e = let z : ◌≡◌ {A = ℕ} 0 1 = cc in omega arith

by_test : {P : Type 0} (b : Bool) → (b ≡ true → P) → (b ≡ false → P) → P
by_test true f g = f refl
by_test false f g = g refl

module _ {E : Type 0} where
  pub needs_least : (ns : List (Node E)) (h t : ℕ) (s : Seat E) → is_waiting (station_of s) ≡ true → 1 ≤ needs ns h t s
  needs_least ns h t Free w = let z : ◌≡◌ {A = ℕ} 0 1 = cc in omega arith
  needs_least ns h t (E1 e own end n) w = grind arith
  needs_least ns h t (E2 e own end n) w = grind arith
  needs_least ns h t (E3 e own end None) w = grind arith
  needs_least ns h t (E3 e own end (Some b)) w = grind arith
  needs_least ns h t (E4 e own end) w = grind arith
  needs_least ns h t (E5 e own end n) w = grind arith
  needs_least ns h t (E6 e own end) w = grind arith
  needs_least ns h t (D1 first end n) w = grind arith
  needs_least ns h t (D2 first end n) w = grind arith
  needs_least ns h t (D3 first end n) w = grind arith
  needs_least ns h t (D4 first end n) w = grind arith
  needs_least ns h t (D5 first end n) w = grind arith
  needs_least ns h t (Ready o a) w = let z : ◌≡◌ {A = ℕ} 0 1 = cc in omega arith

  pub needs_most : (ns : List (Node E)) (h t : ℕ) (s : Seat E) → is_waiting (station_of s) ≡ true → needs ns h t s ≤ 11
  needs_most ns h t Free w = omega arith
  needs_most ns h t (E1 e own end n) w = grind arith
  needs_most ns h t (E2 e own end n) w = grind arith
  needs_most ns h t (E3 e own end None) w = grind arith
  needs_most ns h t (E3 e own end (Some b)) w = grind arith
  needs_most ns h t (E4 e own end) w = grind arith
  needs_most ns h t (E5 e own end n) w = grind arith
  needs_most ns h t (E6 e own end) w = grind arith
  needs_most ns h t (D1 first end n) w = grind arith
  needs_most ns h t (D2 first end n) w = grind arith
  needs_most ns h t (D3 first end n) w = grind arith
  needs_most ns h t (D4 first end n) w = grind arith
  needs_most ns h t (D5 first end n) w = grind arith
  needs_most ns h t (Ready o a) w = omega arith

  module _ (m : LineModel E) (w : Sound m) (p : ℕ) where
    abbrev At : Seat E → Type 0
    At = Seated m.nodes m.taken w.rank (w.rank m.head) (w.rank m.tail)

    abbrev C : Chain m.nodes m.taken m.head m.tail w.rank w.last
    C = w.chain

    -- what p's seat holds after the touch
    seat_after : (s : Seat E) → seat_of m.seats p ≡ s → is_free_seat s ≡ false → (s' : Seat E) → seat_of (set m.seats (p - 1) s') p ≡ s'
    seat_after s at busy s' = let h = seat_there m.seats p (ap is_free_seat at ∙ busy) in seat_same m.seats p s' h.0 h.1

    falls : (s : Seat E) → seat_of m.seats p ≡ s → is_free_seat s ≡ false → (s' : Seat E) (ns : List (Node E)) (h t d : ℕ) →
        (is_waiting (station_of s') ≡ true → needs ns h t s' < d) →
        is_waiting (station_of (seat_of (set m.seats (p - 1) s') p)) ≡ true → needs ns h t (seat_of (set m.seats (p - 1) s') p) < d
    falls s at busy s' ns h t d = subst (λ u. is_waiting (station_of u) ≡ true → needs ns h t u < d) (sym (seat_after s at busy s'))

    -- the node after Tail's is the last
    past_tail : (end b : ℕ) → 1 ≤ w.rank end → next_of m.nodes end ≡ Some b → eqb m.tail end ≡ true → next_of m.nodes b ≡ None
    past_tail end b on d q =
        let z = ap w.rank (eqb-true m.tail end q) in
        let r = next_rank C end b on d in
        last_none C b (omega arith) (omega (arith, C.tail_last))

    abbrev Falls : Seat E → LineModel E → Type 0
    Falls s m' = is_waiting (station_of (seat_of m'.seats p)) ≡ true → needs m'.nodes m'.head m'.tail (seat_of m'.seats p) < needs m.nodes m.head m.tail s

    e3_falls : (e : E) (own end : ℕ) (n : Option ℕ) (t : Bool) → eqb m.tail end ≡ t →
        needs m.nodes m.head m.tail (after_e3 e own end n t) < needs m.nodes m.head m.tail (E3 e own end n)
    e3_falls e own end n false q = grind arith
    e3_falls e own end None true q = grind arith
    e3_falls e own end (Some b) true q = grind arith

    e5_falls : (e : E) (own end n : ℕ) → At (E5 e own end n) →
        needs m.nodes m.head (cond (eqb m.tail end) n m.tail) (E1 e own (Some end) (Some (Some n))) < needs m.nodes m.head m.tail (E5 e own end n)
    e5_falls e own end n x =
        by_test (eqb m.tail end) (λ q. let l = past_tail end n x.1.on x.2 q in grind arith) (λ q. grind arith)

    d4_falls : (first end n : ℕ) → At (D4 first end n) →
        needs {E = E} m.nodes m.head (cond (eqb m.tail end) n m.tail) (D1 (Some first) (Some end) (Some (Some n))) < needs m.nodes m.head m.tail (D4 first end n)
    d4_falls first end n x =
        by_test (eqb m.tail end) (λ q. let l = past_tail end n x.0.on x.1 q in grind arith) (λ q. grind arith)

    d2_falls : (first : ℕ) (end : Option ℕ) (n : Option (Option ℕ)) → At (D2 first end n) →
        needs m.nodes m.head m.tail (D3 first m.tail n) < needs m.nodes m.head m.tail (D2 first end n)
    d2_falls first end n x =
        by_test (eqb first m.tail)
        (λ q. let z = eqb-true first m.tail q in
        let r = ap w.rank z in
        let y : m.head ≡ first = sym (C.only first m.head x.on (omega (arith, x.upto, C.head_tail))) in
        grind (arith, nat_tests))
        (λ q. grind (arith, nat_tests))

    d3_falls : (first end : ℕ) (o : Option (Option ℕ)) → seat_of m.seats p ≡ D3 first end o → At (D3 first end o) →
        (t : Bool) (n : Option ℕ) → eqb first end ≡ t → next_of m.nodes first ≡ n → Falls (D3 first end o) (after_d3 m p first end t n).0
    d3_falls first end o at x true None t d = falls (D3 first end o) at refl (Ready Take answer.Empty) m.nodes m.head m.tail _ (λ f. absurd (no_wait f))
    d3_falls first end o at x true (Some b) t d = falls (D3 first end o) at refl (D4 first end b) m.nodes m.head m.tail _ (λ _. grind arith)
    d3_falls first end o at x false None t d = absurd (omega (arith, none_last C first x.0.on d, first_before m w p first end o x t, C.most m.tail))
    d3_falls first end o at x false (Some b) t d = falls (D3 first end o) at refl (D5 first end b) m.nodes m.head m.tail _ (λ _. grind arith)

    d5_falls : (first end n : ℕ) → seat_of m.seats p ≡ D5 first end n → (t : Bool) → eqb m.head first ≡ t → Falls (D5 first end n) (after_d5 m p first end n t).0
    d5_falls first end n at true t = falls (D5 first end n) at refl (Ready Take (answered (element_of m.nodes n))) m.nodes n m.tail _ (λ f. absurd (no_wait f))
    d5_falls first end n at false t = falls (D5 first end n) at refl (D1 (Some first) (Some end) (Some (Some n))) m.nodes m.head m.tail _ (λ _. grind arith)

    e4_falls : (e : E) (own end : ℕ) → seat_of m.seats p ≡ E4 e own end → (n : Option ℕ) → next_of m.nodes end ≡ n → Falls (E4 e own end) (after_e4 m p e own end n).0
    e4_falls e own end at None d = falls (E4 e own end) at refl (E6 e own end) (link m.nodes end own) m.head m.tail _ (λ _. grind arith)
    e4_falls e own end at (Some b) d = falls (E4 e own end) at refl (E1 e own (Some end) (Some None)) m.nodes m.head m.tail _ (λ _. grind arith)

    act_falls : (s : Seat E) → seat_of m.seats p ≡ s → At s → is_waiting (station_of s) ≡ true → Falls s (act m p s).0
    act_falls Free at x f = absurd (no_wait f)
    act_falls (E1 e own end n) at x f = falls (E1 e own end n) at refl (E2 e own m.tail n) m.nodes m.head m.tail _ (λ _. grind (arith, nat_tests))
    act_falls (E2 e own end n) at x f = falls (E2 e own end n) at refl (E3 e own end (next_of m.nodes end)) m.nodes m.head m.tail _ (λ _. grind (arith, nat_tests))
    act_falls (E3 e own end n) at x f = falls (E3 e own end n) at refl (after_e3 e own end n (eqb m.tail end)) m.nodes m.head m.tail _ (λ _. e3_falls e own end n (eqb m.tail end) refl)
    act_falls (E4 e own end) at x f = e4_falls e own end at (next_of m.nodes end) refl
    act_falls (E5 e own end n) at x f =
        falls (E5 e own end n) at refl (E1 e own (Some end) (Some (Some n))) m.nodes m.head (cond (eqb m.tail end) n m.tail) _ (λ _. e5_falls e own end n x)
    act_falls (E6 e own end) at x f = falls (E6 e own end) at refl (Ready (Put e) answer.Put) m.nodes m.head (cond (eqb m.tail end) own m.tail) _ (λ g. absurd (no_wait g))
    act_falls (D1 first end n) at x f = falls (D1 first end n) at refl (D2 m.head end n) m.nodes m.head m.tail _ (λ _. grind (arith, nat_tests))
    act_falls (D2 first end n) at x f = falls (D2 first end n) at refl (D3 first m.tail n) m.nodes m.head m.tail _ (λ _. d2_falls first end n x)
    act_falls (D3 first end n) at x f = d3_falls first end n at x (eqb first end) (next_of m.nodes first) refl refl
    act_falls (D4 first end n) at x f =
        falls (D4 first end n) at refl (D1 (Some first) (Some end) (Some (Some n))) m.nodes m.head (cond (eqb m.tail end) n m.tail) _ (λ _. d4_falls first end n x)
    act_falls (D5 first end n) at x f = d5_falls first end n at (eqb m.head first) refl
    act_falls (Ready o a) at x f = absurd (no_wait f)

    pub touch_falls : is_waiting (station_of (seat_of m.seats p)) ≡ true → Falls (seat_of m.seats p) (act m p (seat_of m.seats p)).0
    touch_falls = act_falls (seat_of m.seats p) refl (w.seated p)
