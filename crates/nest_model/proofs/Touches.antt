-- The laws of a touch.
use Rattle.std.proofs.Common.{◌≡◌, ℕ, ◌+◌, ◌*◌, ◌<◌, ◌≤◌, Bool, true, false, ◌≢◌, List, length, Some, None, Option, sym, refl, ap, ◌∙◌, subst, true≢false, arith}
use mathlib.Core.Bool.{false≢true}
use Rattle.keys.specs.Order.{Total}
use Rattle.plain_model.specs.Nest.{nest, key_of}
use Rattle.plain_model.specs.declared.nest_op.NestOp.{NestOp}
use Rattle.plain_model.specs.declared.nest_op.NestOp.TheVariants.{Add, Drop, Find}
use Rattle.plain_model.specs.declared.nest_op.NestAnswer.{NestAnswer}
use Rattle.boards.specs.Board.{is_waiting}
use Rattle.boards.specs.Laws.{KeepsOthers, Touched, goes_uncounted, counts_ready}
use Rattle.boards.specs.declared.outcome.Outcome.TheVariants as told
use Rattle.boards.specs.declared.station.Station.TheVariants as station
use Rattle.nest_model.specs.declared.cell.Cell.{Cell}
use Rattle.nest_model.specs.declared.node.Node.{Node}
use Rattle.nest_model.specs.declared.phase.Phase.{Phase}
use Rattle.nest_model.specs.declared.phase.Phase.TheVariants.{N1, N2, N3, N4, N5, N6}
use Rattle.nest_model.specs.declared.registers.Registers.{Registers}
use Rattle.nest_model.specs.declared.work.Work.{Work}
use Rattle.nest_model.specs.declared.work.Work.TheVariants.{Free, Waiting, Ready}
use Rattle.nest_model.specs.Ends.{Extended}
use Rattle.nest_model.specs.Cells.{node, cell_at, key_at, written}
use Rattle.nest_model.specs.Table.{Step, readings, touched}
use Rattle.nest_model.specs.Model.{NestModel, work_at, with, station_of, stepped, tells, act, waiting}
use Rattle.nest_model.specs.Chain.{listing}
use Rattle.nest_model.specs.Live.{Live, live, remaining}
use Rattle.nest_model.specs.Meaning.{contents, work_distance, means}
use Rattle.nest_model.specs.Sound.{Chained, Stands, Owns, Works, own_of, Sound}
use Rattle.nest_model.proofs.Kept.{remaining_least, remaining_most}
use Rattle.nest_model.proofs.Places.{Here, here_work, put_same, put_other, put_length, cell_written, cell_other, key_written, length_written}
use Rattle.nest_model.proofs.Fine.{Stepped, Owned, Fine, Wrote, Did, fine, held_in, le_not_back}
use Rattle.nest_model.proofs.Heap.{marked_ne}
use Rattle.nest_model.proofs.Move.{Move, writes, does, move}
use Rattle.nest_model.proofs.View.{Carries, to_go, to_write, to_say, to_do, OwnSet, OwnAt, Onward, carried}
use Rattle.nest_model.proofs.Stations.{heap_of, stay, sound_put, waiting_own, none_own, own_apart}

module _ {K : Type 0} {before : K → K → Bool} (total : Total before) where
  -- an add's own node, in the moves' words and back
  owned : (key : ℕ → Extended K) (size : ℕ) (linked : ℕ → Bool) (o : NestOp K) (own : Option ℕ) → Owns before key size linked o own → Owned key size linked o (node own)
  owned key size linked (Add k) own h = (h.0, h.1, h.2)
  owned key size linked (Drop k) own h = tt
  owned key size linked (Find k) own h = tt

  owns_again : (key : ℕ → Extended K) (size : ℕ) (linked linked' : ℕ → Bool) (o : NestOp K) (own : Option ℕ) → Owns before key size linked o own →
      Owned key size linked' o (node own) → Owns before key size linked' o own
  owns_again key size linked linked' (Add k) own h w = (w.0, w.1, w.2, h.3)
  owns_again key size linked linked' (Drop k) own h w = h
  owns_again key size linked linked' (Find k) own h w = h

  own_set : (key : ℕ → Extended K) (size : ℕ) (linked : ℕ → Bool) (o : NestOp K) (own : Option ℕ) → Owns before key size linked o own → OwnSet o own
  own_set key size linked (Add k) own h = h.3
  own_set key size linked (Drop k) own h = tt
  own_set key size linked (Find k) own h = tt

  -- a touch of a waiting station
  module _ (m : NestModel K) (s : Sound before m) (p : ℕ) (o : NestOp K) (own : Option ℕ) (ph : Phase) (r : Registers) (at_p : work_at m.works p ≡ waiting o own ph r) where
    good : Works before (cell_at m.nodes) (key_at m.nodes) (m.taken + 2) s.linked (waiting o own ph r)
    good = rw at_p at (s.each p)

    there : Here m.works p
    there = here_work m.works p (waiting o own ph r) at_p (λ e. let z : ◌≡◌ {A = ℕ} 0 1 = cc in omega arith)

    set_at : (x : ℕ) (v : Cell) → x < m.taken + 2 → cell_at (written m.nodes x v) x ≡ v
    set_at x v f = cell_written m.nodes x v (let a = s.enough in let b = s.tabled in omega arith)

    -- a write keeps the keys, so that a step to a heap with the old keys is one to the table after the write
    abbrev re_keyed : (x : ℕ) (v : Cell) → Stepped (heap_of total m s) (cell_at (written m.nodes x v)) (key_at m.nodes) (m.taken + 2) (node own) →
        Stepped (heap_of total m s) (cell_at (written m.nodes x v)) (key_at (written m.nodes x v)) (m.taken + 2) (node own)
    re_keyed x v st =
        let e = key_written m.nodes x v in
        record {
          linked = st.linked;
          ok = subst (λ (key : ℕ → Extended K). Chained before (cell_at (written m.nodes x v)) key (m.taken + 2) st.linked) (sym e) st.ok;
          alike = λ n fit. ap (λ (key : ℕ → Extended K). key n) e ∙ st.alike n fit;
          larger = st.larger;
          more = st.more;
          frozen = st.frozen;
          others = st.others;
        }

    -- what a move that writes and goes on gives, at the table after the write
    wrote : (x : ℕ) (v : Cell) (l : Live) → Fine (heap_of total m s) o (node own) (live ph r) (writes x v l) → Wrote (heap_of total m s) o (node own) (cell_at (written m.nodes x v)) (live ph r) l
    wrote x v l f = f.1 (cell_at (written m.nodes x v)) (set_at x v f.0) (cell_other m.nodes x v)

    did : (x : ℕ) (v : Cell) (a : NestAnswer) → Fine (heap_of total m s) o (node own) (live ph r) (does x v a) → Did (heap_of total m s) o (node own) (cell_at (written m.nodes x v)) a
    did x v a f = f.1 (cell_at (written m.nodes x v)) (set_at x v f.0) (cell_other m.nodes x v)

    written_length : (x : ℕ) (v : Cell) → length (written m.nodes x v) ≡ m.size + 2
    written_length x v = length_written m.nodes x v ∙ s.tabled

    own_kept : (n : ℕ) → own ≡ Some n → n ≡ node own
    own_kept n e = waiting_own total own n e

    others_apart : (q : ℕ) → q ≢ p → (n : ℕ) → own_of (work_at m.works q) ≡ Some n → n ≢ node own
    others_apart = own_apart total m s p o own ph r at_p good.0

    carry_sound : {mv : Move} {r' : Registers} {ns' : List (Node K)} {st : Step} → Carries m.nodes mv r' ns' st → Fine (heap_of total m s) o (node own) (live ph r) mv →
        Sound before (with m ns' p (stepped o own r' st))
    carry_sound (to_go {ph = ph'} {r = r'} e all) f =
        sound_put total m s p there (node own) others_apart (with m m.nodes p (waiting o own ph' r')) (waiting o own ph' r') refl
        s.enough s.tabled _ refl (stay total m s (node own)) own_kept (good.0, rw e f.0, all)
    carry_sound (to_say {a = a} {r = r'}) f =
        sound_put total m s p there (node own) others_apart (with m m.nodes p (Ready o a r')) (Ready o a r') refl
        s.enough s.tabled _ refl (stay total m s (node own)) (λ n e. none_own total n e) tt
    carry_sound (to_write {x = x} {c = c} {ph = ph'} {r = r'} {v = l} q e all) f =
        let w = wrote x c l f in
        let k = key_written m.nodes x c in
        subst (λ (v : Cell). Sound before (with m (written m.nodes x v) p (waiting o own ph' r'))) (sym q)
        (sound_put total m s p there (node own) others_apart (with m (written m.nodes x c) p (waiting o own ph' r')) (waiting o own ph' r') refl
        s.enough (written_length x c) _ refl (re_keyed x c w.step) own_kept (
          subst (λ (key : ℕ → Extended K). Owns before key (m.taken + 2) w.step.linked o own) (sym k) (owns_again (key_at m.nodes) (m.taken + 2) s.linked w.step.linked o own good.0 w.owns),
          rw e (subst (λ (key : ℕ → Extended K). Stands before (cell_at (written m.nodes x c)) key w.step.linked o (node own) l) (sym k) w.stands),
          all,
        ))
    carry_sound (to_do {x = x} {c = c} {a = a} {r = r'} q) f =
        let w = did x c a f in
        subst (λ (v : Cell). Sound before (with m (written m.nodes x v) p (Ready o a r'))) (sym q)
        (sound_put total m s p there (node own) others_apart (with m (written m.nodes x c) p (Ready o a r')) (Ready o a r') refl
        s.enough (written_length x c) _ refl (re_keyed x c w.step) (λ n e. none_own total n e) tt)

    -- the contents and the distance at the table after a write, from the old keys
    list_written : (x : ℕ) (v : Cell) → contents (with m (written m.nodes x v) p Free) ≡ listing (cell_at (written m.nodes x v)) (key_at m.nodes) (m.size + 2) 0
    list_written x v = ap (λ (key : ℕ → Extended K). listing (cell_at (written m.nodes x v)) key (m.size + 2) 0) (key_written m.nodes x v)

    carry_does : {mv : Move} {r' : Registers} {ns' : List (Node K)} {st : Step} → Carries m.nodes mv r' ns' st → Fine (heap_of total m s) o (node own) (live ph r) mv →
        Touched (nest before) (contents m) (contents (with m ns' p (stepped o own r' st))) (station.Uncounted o)
        (station_of (work_at (with m ns' p (stepped o own r' st)).works p)) (tells st).0 (tells st).1
    carry_does (to_go {ph = ph'} {r = r'} e all) f = rw (put_same m.works p (waiting o own ph' r') there) (goes_uncounted refl)
    carry_does (to_say {a = a} {r = r'}) f = rw (put_same m.works p (Ready o a r') there) (counts_ready f)
    carry_does (to_write {x = x} {c = c} {d = d} {ph = ph'} {r = r'} {v = l} q e all) f =
        let w = wrote x c l f in
        rw (put_same m.works p (waiting o own ph' r') there)
        (goes_uncounted (ap (λ (v : Cell). contents (with m (written m.nodes x v) p Free)) q ∙ list_written x c ∙ w.kept))
    carry_does (to_do {x = x} {c = c} {d = d} {a = a} {r = r'} q) f =
        let w = did x c a f in
        rw (put_same m.works p (Ready o a r') there)
        (counts_ready (w.told ∙ ap (λ (xs : List K). (xs, a)) (sym (ap (λ (v : Cell). contents (with m (written m.nodes x v) p Free)) q ∙ list_written x c))))

    carry_falls : {mv : Move} {r' : Registers} {ns' : List (Node K)} {st : Step} → Carries m.nodes mv r' ns' st → Fine (heap_of total m s) o (node own) (live ph r) mv →
        is_waiting (station_of (work_at (with m ns' p (stepped o own r' st)).works p)) ≡ true →
        work_distance before (with m ns' p (stepped o own r' st)) (work_at (with m ns' p (stepped o own r' st)).works p) < work_distance before m (waiting o own ph r)
    carry_falls (to_go {ph = ph'} {r = r'} e all) f t = rw (put_same m.works p (waiting o own ph' r') there) (rw e f.1)
    carry_falls (to_say {a = a} {r = r'}) f t = absurd (false≢true (rw (put_same m.works p (Ready o a r') there) at t))
    carry_falls (to_write {x = x} {c = c} {d = d} {ph = ph'} {r = r'} {v = l} q e all) f t =
        let w = wrote x c l f in
        rw (put_same m.works p (waiting o own ph' r') there)
        (subst (λ (v : Cell). work_distance before (with m (written m.nodes x v) p (waiting o own ph' r')) (waiting o own ph' r') < work_distance before m (waiting o own ph r)) (sym q)
        (rw e
        (subst (λ (key : ℕ → Extended K). remaining before (cell_at (written m.nodes x c)) key m.size (key_of o) l < work_distance before m (waiting o own ph r)) (sym (key_written m.nodes x c)) w.falls)))
    carry_falls (to_do {x = x} {c = c} {d = d} {a = a} {r = r'} q) f t = absurd (false≢true (rw (put_same m.works p (Ready o a r') there) at t))

    -- what the touch reads leads on
    onward : Onward (cell_at m.nodes) ph r
    onward = go ph r good.1
      where
        go : (ph : Phase) (r : Registers) → Stands before (cell_at m.nodes) (key_at m.nodes) s.linked o (node own) (live ph r) → Onward (cell_at m.nodes) ph r
        go N1 r st = (s.chain.front_plain, s.chain.named 0 s.chain.front_in (omega arith))
        go N2 r st =
            s.chain.named (node r.next) (held_in (heap_of total m s) (key_of o) _ _ (node r.next) st.0)
            (le_not_back (heap_of total m s) (key_of o) (node r.next) st.1)
        go N3 r st =
            λ t. s.chain.named (node r.next) (held_in (heap_of total m s) (key_of o) _ _ (node r.next) st.0) (marked_ne (heap_of total m s) (node r.next) t)
        go N4 r st = tt
        go N5 r st = tt
        go N6 r st = tt

    own_at : OwnAt own ph
    own_at = go o ph good.0 good.1
      where
        go : (o : NestOp K) (ph : Phase) → Owns before (key_at m.nodes) (m.taken + 2) s.linked o own →
            Stands before (cell_at m.nodes) (key_at m.nodes) s.linked o (node own) (live ph r) → OwnAt own ph
        go o N1 h st = tt
        go o N2 h st = tt
        go o N3 h st = tt
        go o N4 h st = tt
        go (Add k) N5 h st = h.3
        go (Drop k) N5 h st = elim st [ ]
        go (Find k) N5 h st = elim st [ ]
        go o N6 h st = tt

    carries : Carries m.nodes (move before (cell_at m.nodes) (key_at m.nodes) o (node own) (live ph r)) (readings ph r (cell_at m.nodes))
        (touched before o own ph r m.nodes).0 (touched before o own ph r m.nodes).1
    carries = carried before m.nodes o own (own_set (key_at m.nodes) (m.taken + 2) s.linked o own good.0) ph r good.2 onward own_at

    moves_fine : Fine (heap_of total m s) o (node own) (live ph r) (move before (cell_at m.nodes) (key_at m.nodes) o (node own) (live ph r))
    moves_fine = fine (heap_of total m s) o (node own) (live ph r) (owned (key_at m.nodes) (m.taken + 2) s.linked o own good.0) good.1

  -- the laws, by what the station is at
  pub act_sound : (m : NestModel K) (s : Sound before m) (p : ℕ) (w : Work K) → work_at m.works p ≡ w → Sound before (act before m p w).0
  act_sound m s p Free e = s
  act_sound m s p (Ready o a r) e = s
  act_sound m s p (Waiting w) e = let o = w.op in let own = w.own in let ph = w.phase in let r = w.registers in
      carry_sound m s p o own ph r e (carries m s p o own ph r e) (moves_fine m s p o own ph r e)

  pub act_does : (m : NestModel K) (s : Sound before m) (p : ℕ) (w : Work K) → work_at m.works p ≡ w → is_waiting (station_of w) ≡ true →
      Touched (nest before) (contents m) (contents (act before m p w).0) (station_of w)
      (station_of (work_at (act before m p w).0.works p)) (act before m p w).1.0 (act before m p w).1.1
  act_does m s p Free e t = absurd (false≢true t)
  act_does m s p (Ready o a r) e t = absurd (false≢true t)
  act_does m s p (Waiting w) e t = let o = w.op in let own = w.own in let ph = w.phase in let r = w.registers in
      carry_does m s p o own ph r e (carries m s p o own ph r e) (moves_fine m s p o own ph r e)

  pub act_falls : (m : NestModel K) (s : Sound before m) (p : ℕ) (w : Work K) → work_at m.works p ≡ w → is_waiting (station_of w) ≡ true →
      is_waiting (station_of (work_at (act before m p w).0.works p)) ≡ true →
      work_distance before (act before m p w).0 (work_at (act before m p w).0.works p) < work_distance before m w
  act_falls m s p Free e t u = absurd (false≢true t)
  act_falls m s p (Ready o a r) e t u = absurd (false≢true t)
  act_falls m s p (Waiting w) e t u = let o = w.op in let own = w.own in let ph = w.phase in let r = w.registers in
      carry_falls m s p o own ph r e (carries m s p o own ph r e) (moves_fine m s p o own ph r e) u

  pub act_least : (m : NestModel K) (s : Sound before m) (w : Work K) → is_waiting (station_of w) ≡ true → 1 ≤ work_distance before m w
  act_least m s Free t = absurd (false≢true t)
  act_least m s (Ready o a r) t = absurd (false≢true t)
  act_least m s (Waiting w) t = remaining_least (heap_of total m s) w.op (node w.own) (live w.phase w.registers)

  pub act_most : (m : NestModel K) (s : Sound before m) (w : Work K) → Works before (cell_at m.nodes) (key_at m.nodes) (m.taken + 2) s.linked w →
      is_waiting (station_of w) ≡ true → work_distance before m w ≤ 3 * m.size + 7
  act_most m s Free g t = absurd (false≢true t)
  act_most m s (Ready o a r) g t = absurd (false≢true t)
  act_most m s (Waiting w) g t = remaining_most (heap_of total m s) w.op (node w.own) (live w.phase w.registers) g.1

module _ {K : Type 0} (before : K → K → Bool) where
  pub act_idle : (m : NestModel K) (p : ℕ) (w : Work K) → is_waiting (station_of w) ≡ false → act before m p w ≡ (m, (told.Idle, None))
  act_idle m p Free t = refl
  act_idle m p (Ready o a r) t = refl
  act_idle m p (Waiting w) t = absurd (true≢false t)

  pub act_others : (m : NestModel K) (p : ℕ) (w : Work K) → KeepsOthers (means before) m (act before m p w).0 p
  act_others m p Free = record { stations = refl; bound = refl; station = λ q d. refl }
  act_others m p (Ready o a r) = record { stations = refl; bound = refl; station = λ q d. refl }
  act_others m p (Waiting w) =
      record { stations = put_length m.works p _; bound = refl; station = λ q d. ap station_of (put_other m.works p _ q d) }
