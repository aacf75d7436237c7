-- The laws of begin.
use Rattle.std.proofs.Common.{◌≡◌, ℕ, ◌+◌, ◌<◌, Bool, true, false, cond, ◌&&◌, leb, ◌≢◌, List, length, Some, None, refl, ap, ◌∙◌, ⊎_elim, arith, length-set}
use mathlib.Core.Bool.{false≢true}
use Rattle.std.proofs.lemmas.Bool.{cases_Bool, and_parts, ltb-true}
use Rattle.keys.specs.Order.{Total}
use Rattle.plain_model.specs.declared.nest_op.NestOp.{NestOp}
use Rattle.plain_model.specs.declared.nest_op.NestOp.TheVariants.{Add, Drop, Find}
use Rattle.boards.specs.Board.{is_free}
use Rattle.boards.specs.Laws.{KeepsOthers}
use Rattle.boards.specs.declared.station.Station.TheVariants as station
use Rattle.nest_model.specs.declared.node.Node.{Node}
use Rattle.nest_model.specs.declared.phase.Phase.TheVariants.{N1}
use Rattle.nest_model.specs.declared.work.Work.{Work}
use Rattle.nest_model.specs.declared.work.Work.TheVariants.{Free, Waiting, Ready}
use Rattle.nest_model.specs.Cells.{node, link, cell_at, key_at}
use Rattle.nest_model.specs.Table.{unset}
use Rattle.nest_model.specs.Model.{NestModel, work_at, put_at, with, station_of, space, may_begin, enter, waiting}
use Rattle.nest_model.specs.Live.{live}
use Rattle.nest_model.specs.Meaning.{contents, work_distance, means}
use Rattle.nest_model.specs.Sound.{Works, Sound}
use Rattle.nest_model.proofs.Agree.{all_chained, list_all}
use Rattle.nest_model.proofs.Kept.{owns_out, remaining_kept}
use Rattle.nest_model.proofs.Places.{Here, here_by, put_same, put_other, put_length, cell_old, key_old, key_new}
use Rattle.nest_model.proofs.Fine.{Stepped}
use Rattle.nest_model.proofs.Stations.{heap_of, stay, sound_put, waiting_own, none_own, back_apart}

-- works other than p's are as far from their answers where only p's work differs
module _ {K : Type 0} (before : K → K → Bool) where
  work_distance_lem : (m : NestModel K) (p : ℕ) (w v : Work K) → work_distance before (with m m.nodes p w) v ≡ work_distance before m v
  work_distance_lem m p w Free = refl
  work_distance_lem m p w (Waiting v) = refl
  work_distance_lem m p w (Ready o a r) = refl

  pub put_distance : (m : NestModel K) (p : ℕ) (w : Work K) (q : ℕ) → q ≢ p →
      work_distance before (with m m.nodes p w) (work_at (put_at m.works p w) q) ≡ work_distance before m (work_at m.works q)
  put_distance m p w q d = ap (work_distance before (with m m.nodes p w)) (put_other m.works p w q d) ∙ work_distance_lem m p w (work_at m.works q)

  enter_others : (m : NestModel K) (p : ℕ) (o : NestOp K) → KeepsOthers (means before) m (enter m p o) p
  enter_others m p (Add k) = record { stations = put_length m.works p _; bound = refl; station = λ q d. ap station_of (put_other m.works p _ q d) }
  enter_others m p (Drop k) = record { stations = put_length m.works p _; bound = refl; station = λ q d. ap station_of (put_other m.works p _ q d) }
  enter_others m p (Find k) = record { stations = put_length m.works p _; bound = refl; station = λ q d. ap station_of (put_other m.works p _ q d) }

  pub begin_others : (m : NestModel K) (p : ℕ) (o : NestOp K) (t : Bool) → KeepsOthers (means before) m (cond t (enter m p o) m) p
  begin_others m p o true = enter_others m p o
  begin_others m p o false = record { stations = refl; bound = refl; station = λ q d. refl }

module _ {K : Type 0} where
  enter_waits : (m : NestModel K) (p : ℕ) (o : NestOp K) → Here m.works p → station_of (work_at (enter m p o).works p) ≡ station.Uncounted o
  enter_waits m p (Add k) h = ap station_of (put_same m.works p (waiting (Add k) (Some (m.taken + 2)) N1 unset) h)
  enter_waits m p (Drop k) h = ap station_of (put_same m.works p (waiting (Drop k) None N1 unset) h)
  enter_waits m p (Find k) h = ap station_of (put_same m.works p (waiting (Find k) None N1 unset) h)

  may_here : (m : NestModel K) (p : ℕ) (o : NestOp K) → may_begin m p o ≡ true → Here m.works p
  may_here m p o e = here_by m.works p (and_parts (leb 1 p && leb p (length m.works)) _ e).0

  may_space : (m : NestModel K) (p : ℕ) (o : NestOp K) → may_begin m p o ≡ true → space m o ≡ true
  may_space m p o e =
      (and_parts (is_free (station_of (work_at m.works p))) (space m o)
      (and_parts (leb 1 p && leb p (length m.works)) (is_free (station_of (work_at m.works p)) && space m o) e).1).1

  pub begin_waits : (m : NestModel K) (p : ℕ) (o : NestOp K) (t : Bool) → may_begin m p o ≡ t → t ≡ true → station_of (work_at (cond t (enter m p o) m).works p) ≡ station.Uncounted o
  begin_waits m p o true e q = enter_waits m p o (may_here m p o e)
  begin_waits m p o false e q = absurd (false≢true q)

module _ {K : Type 0} {before : K → K → Bool} (total : Total before) where
  -- an add begins: one node more
  module _ (m : NestModel K) (s : Sound before m) (p : ℕ) (k : K) where
    abbrev table : List (Node K)
    table = (enter m p (Add k)).nodes

    in_cell : (n : ℕ) → s.linked n ≡ true → cell_at table n ≡ cell_at m.nodes n
    in_cell n l = cell_old m.nodes _ (m.taken + 2) n (s.chain.fits n l)

    in_key : (n : ℕ) → s.linked n ≡ true → key_at table n ≡ key_at m.nodes n
    in_key n l = key_old m.nodes _ (m.taken + 2) n (s.chain.fits n l)

    abbrev grown : Stepped (heap_of total m s) (cell_at table) (key_at table) (m.taken + 1 + 2) (m.taken + 2)
    grown = record {
      linked = s.linked;
      ok = all_chained (heap_of total m s) (cell_at table) in_cell (key_at table) in_key (m.taken + 1 + 2) (omega arith);
      alike = λ n fit. key_old m.nodes _ (m.taken + 2) n fit;
      larger = omega arith;
      more = λ n l. l;
      frozen = λ n l t. in_cell n l;
      others = λ n fit d f. (f, cell_old m.nodes _ (m.taken + 2) n fit);
    }

    new_out : s.linked (m.taken + 2) ≡ false
    new_out = ⊎_elim (λ t. absurd (let f = s.chain.fits _ t in omega arith)) (λ f. f) (cases_Bool (s.linked (m.taken + 2)))

    add_sound : Here m.works p → m.taken < m.size → Sound before (enter m p (Add k))
    add_sound h room =
        let e = s.tabled in
        sound_put total m s p h (m.taken + 2)
        (λ q d n o z.
        let out = owns_out before (cell_at m.nodes) (key_at m.nodes) (m.taken + 2) s.linked (work_at m.works q) n (s.each q) o in
        omega (arith, out.1))
        (enter m p (Add k)) (waiting (Add k) (Some (m.taken + 2)) N1 unset) refl (omega arith) (length-set m.nodes (m.taken + 2) _ ∙ s.tabled) _ refl grown
        (waiting_own total (Some (m.taken + 2))) ((new_out, omega arith, key_new m.nodes (record { key = k; cell = link None }) m.taken (omega arith), refl), tt, tt)

    grown_distance : (w : Work K) → Works before (cell_at m.nodes) (key_at m.nodes) (m.taken + 2) s.linked w →
        work_distance before (enter m p (Add k)) w ≡ work_distance before m w
    grown_distance Free g = refl
    grown_distance (Ready o a r) g = refl
    grown_distance (Waiting w) g = remaining_kept (heap_of total m s) (cell_at table) (key_at table) in_cell in_key w.op (node w.own) (live w.phase w.registers) g.1

    grown_contents : contents (enter m p (Add k)) ≡ contents m
    grown_contents = list_all (heap_of total m s) (cell_at table) in_cell (key_at table) in_key (m.taken + 2) (omega arith) (m.size + 2)

  enter_sound : (m : NestModel K) (s : Sound before m) (p : ℕ) (o : NestOp K) → Here m.works p → space m o ≡ true → Sound before (enter m p o)
  enter_sound m s p (Add k) h r = add_sound m s p k h (ltb-true m.taken m.size r)
  enter_sound m s p (Drop k) h r =
      sound_put total m s p h 1 (λ q d n. back_apart total m s q n) (enter m p (Drop k)) (waiting (Drop k) None N1 unset) refl s.enough s.tabled _ refl (stay total m s 1)
      (λ n e. none_own total n e) (refl, tt, tt)
  enter_sound m s p (Find k) h r =
      sound_put total m s p h 1 (λ q d n. back_apart total m s q n) (enter m p (Find k)) (waiting (Find k) None N1 unset) refl s.enough s.tabled _ refl (stay total m s 1)
      (λ n e. none_own total n e) (refl, tt, tt)

  enter_distances : (m : NestModel K) (s : Sound before m) (p : ℕ) (o : NestOp K) (q : ℕ) → q ≢ p →
      work_distance before (enter m p o) (work_at (enter m p o).works q) ≡ work_distance before m (work_at m.works q)
  enter_distances m s p (Add k) q d =
      ap (work_distance before (enter m p (Add k))) (put_other m.works p (waiting (Add k) (Some (m.taken + 2)) N1 unset) q d) ∙ grown_distance m s p k (work_at m.works q) (s.each q)
  enter_distances m s p (Drop k) q d = put_distance before m p (waiting (Drop k) None N1 unset) q d
  enter_distances m s p (Find k) q d = put_distance before m p (waiting (Find k) None N1 unset) q d

  enter_contents : (m : NestModel K) (s : Sound before m) (p : ℕ) (o : NestOp K) → contents (enter m p o) ≡ contents m
  enter_contents m s p (Add k) = grown_contents m s p k
  enter_contents m s p (Drop k) = refl
  enter_contents m s p (Find k) = refl

  pub begin_sound : (m : NestModel K) (s : Sound before m) (p : ℕ) (o : NestOp K) (t : Bool) → may_begin m p o ≡ t → Sound before (cond t (enter m p o) m)
  begin_sound m s p o true e = enter_sound m s p o (may_here m p o e) (may_space m p o e)
  begin_sound m s p o false e = s

  pub begin_distances : (m : NestModel K) (s : Sound before m) (p : ℕ) (o : NestOp K) (q : ℕ) → q ≢ p → (t : Bool) →
      work_distance before (cond t (enter m p o) m) (work_at (cond t (enter m p o) m).works q) ≡ work_distance before m (work_at m.works q)
  begin_distances m s p o q d true = enter_distances m s p o q d
  begin_distances m s p o q d false = refl

  pub begin_contents : (m : NestModel K) (s : Sound before m) (p : ℕ) (o : NestOp K) (t : Bool) → contents (cond t (enter m p o) m) ≡ contents m
  begin_contents m s p o true = enter_contents m s p o
  begin_contents m s p o false = refl
