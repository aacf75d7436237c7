-- What a step of one station leaves to the others, and the bounds of the distance.
use Rattle.std.proofs.Common.{◌≡◌, ℕ, ◌+◌, ◌*◌, ◌<◌, ◌≤◌, Bool, true, false, cond, ◌≢◌, Some, sym, refl, ap, ◌∙◌, subst, arith, Option}
use Rattle.plain_model.specs.declared.nest_op.NestOp.{NestOp}
use Rattle.plain_model.specs.declared.nest_op.NestOp.TheVariants.{Add, Drop, Find}
use Rattle.plain_model.specs.Nest.{key_of}
use Rattle.nest_model.specs.declared.cell.Cell.{Cell}
use Rattle.nest_model.specs.declared.work.Work.{Work}
use Rattle.nest_model.specs.declared.work.Work.TheVariants.{Free, Waiting, Ready}
use Rattle.nest_model.specs.Ends.{Extended, Low, Le}
use Rattle.nest_model.specs.Cells.{node}
use Rattle.nest_model.specs.Chain.{Leads}
use Rattle.nest_model.specs.Live.{Live, Start, Walk, Skip, Unlink, Insert, Strike, still, remaining, live}
use Rattle.nest_model.specs.Sound.{Held, Owns, Stands, Works, own_of}
use Rattle.nest_model.proofs.Orders.{le_lt, low_first}
use Rattle.nest_model.proofs.Heap.{Heap, In, next, marked_ne, far_off, far_most, leads_in, leads_after}
use Rattle.nest_model.proofs.Sequential.{tidy}
use Rattle.nest_model.proofs.Agree.{clean_all, steps_all}
use Rattle.nest_model.proofs.Fine.{Stepped, held_in}

-- an add's node is not linked
pub owns_out : {K : Type 0} (before : K → K → Bool) (cell : ℕ → Cell) (key : ℕ → Extended K) (size : ℕ) (linked : ℕ → Bool) (w : Work K) (n : ℕ) →
    Works before cell key size linked w → own_of w ≡ Some n → (linked n ≡ false) × (n < size)
owns_out before cell key size linked Free n h e = let z : ◌≡◌ {A = ℕ} 0 1 = cc in absurd (omega arith)
owns_out before cell key size linked (Ready o a r) n h e = let z : ◌≡◌ {A = ℕ} 0 1 = cc in absurd (omega arith)
owns_out {K = K} before cell key size linked (Waiting w) n h e = go w.op h.0
  where
    go : (o : NestOp K) → Owns before key size linked o w.own → (linked n ≡ false) × (n < size)
    go (Add k) a = let q : node w.own ≡ n = ap node e in (subst (λ i. linked i ≡ false) q a.0, subst (λ i. i < size) q a.1)
    go (Drop k) a = let z : ◌≡◌ {A = ℕ} 0 1 = cc in absurd (omega arith)
    go (Find k) a = let z : ◌≡◌ {A = ℕ} 0 1 = cc in absurd (omega arith)

module _ {K : Type 0} {before : K → K → Bool} (H : Heap before) (c' : ℕ → Cell) (key' : ℕ → Extended K) (size' own : ℕ) (st : Stepped H c' key' size' own) where
  leads_kept : (u n : ℕ) → In H n → Leads H.cell u n → Leads c' u n
  leads_kept u n l Leads.at = Leads.at
  leads_kept u n l (Leads.via t r) =
      let e = st.frozen n l t in
      let ih = leads_kept u (next H n) (H.ok.onward n l (marked_ne H n t)) r in
      Leads.via (rw e t) (subst (λ (d : Cell). Leads c' u (node d.next)) (sym e) ih)

  key_kept : (n : ℕ) → In H n → key' n ≡ H.key n
  key_kept n l = st.alike n (H.ok.fits n l)

  held_kept : (k : K) (keep kept n : ℕ) → Held before H.cell H.key H.linked k keep kept n → Held before c' key' st.linked k keep kept n
  held_kept k keep kept n h = record {
    keep_in = st.more keep h.keep_in;
    kept_in = st.more kept h.kept_in;
    leads = leads_kept n kept h.kept_in h.leads;
    not_after = rw (key_kept keep h.keep_in) h.not_after;
    rise = rw (key_kept keep h.keep_in) (rw (key_kept kept h.kept_in) h.rise);
  }

  stands_kept : (o : NestOp K) (mine : ℕ) (ph : Live) → ((k : K) → o ≡ Add k → c' mine ≡ H.cell mine) → Stands before H.cell H.key H.linked o mine ph →
      Stands before c' key' st.linked o mine ph
  stands_kept o mine Start e s = tt
  stands_kept o mine (Walk keep kept n) e s =
      (held_kept (key_of o) keep kept n s.0, rw (key_kept n (held_in H (key_of o) keep kept n s.0)) s.1)
  stands_kept o mine (Skip keep kept n) e s =
      (held_kept (key_of o) keep kept n s.0, rw (key_kept n (held_in H (key_of o) keep kept n s.0)) s.1)
  stands_kept o mine (Unlink keep kept n) e s =
      (held_kept (key_of o) keep kept n s.0, rw (key_kept n (held_in H (key_of o) keep kept n s.0)) s.1)
  stands_kept (Add k) mine (Insert here then) e s =
      (st.more here s.0, rw (key_kept here s.0) s.1, rw (key_kept then s.4) s.2, e k refl ∙ s.3, st.more then s.4)
  stands_kept (Drop k) mine (Insert here then) e s = elim s [ ]
  stands_kept (Find k) mine (Insert here then) e s = elim s [ ]
  stands_kept (Add k) mine (Strike here then) e s = elim s [ ]
  stands_kept (Drop k) mine (Strike here then) e s =
      (st.more here s.0, key_kept here s.0 ∙ s.1, rw (key_kept then s.3) s.2, st.more then s.3)
  stands_kept (Find k) mine (Strike here then) e s = elim s [ ]

  owned_kept : (o : NestOp K) (ph : Live) (mine : Option ℕ) → ((n : ℕ) → mine ≡ Some n → n ≢ own) → Owns before H.key H.size H.linked o mine →
      Stands before H.cell H.key H.linked o (node mine) ph → Owns before key' size' st.linked o mine × Stands before c' key' st.linked o (node mine) ph
  owned_kept (Add k) ph mine d a s =
      let fit = a.1 in let big = st.larger in
      let kept = st.others (node mine) fit (d (node mine) a.3) a.0 in
      ((kept.0, omega arith, st.alike (node mine) fit ∙ a.2, a.3), stands_kept (Add k) (node mine) ph (λ j e. kept.1) s)
  owned_kept (Drop k) ph mine d a s = (a, stands_kept (Drop k) (node mine) ph (λ j e. let z : ◌≡◌ {A = ℕ} 0 1 = cc in absurd (omega arith)) s)
  owned_kept (Find k) ph mine d a s = (a, stands_kept (Find k) (node mine) ph (λ j e. let z : ◌≡◌ {A = ℕ} 0 1 = cc in absurd (omega arith)) s)

  pub works_kept : (w : Work K) → ((n : ℕ) → own_of w ≡ Some n → n ≢ own) → Works before H.cell H.key H.size H.linked w →
      Works before c' key' size' st.linked w
  works_kept Free d h = tt
  works_kept (Ready o a r) d h = tt
  works_kept (Waiting w) d h = let k = owned_kept w.op (live w.phase w.registers) w.own d h.0 h.1 in (k.0, k.1, h.2)

-- a heap that differs in no linked node: each station is as far from its answer
module _ {K : Type 0} {before : K → K → Bool} (H : Heap before) (c' : ℕ → Cell) (key' : ℕ → Extended K) (agree : (n : ℕ) → In H n → c' n ≡ H.cell n) (alike : (n : ℕ) → In H n → key' n ≡ H.key n) where
  pub remaining_kept : (o : NestOp K) (own : ℕ) (ph : Live) → Stands before H.cell H.key H.linked o own ph →
      remaining before c' key' H.room (key_of o) ph ≡ remaining before H.cell H.key H.room (key_of o) ph
  remaining_kept o own Start s = rw (clean_all H c' agree key' alike H.size (omega arith) (key_of o) (H.room + 2))
  remaining_kept o own (Walk keep kept n) s =
      rw (agree keep s.0.keep_in, clean_all H c' agree key' alike H.size (omega arith) (key_of o) (H.room + 2), steps_all H c' agree key' alike H.size (omega arith) (H.room + 2) n (held_in H (key_of o) keep kept n s.0))
  remaining_kept o own (Skip keep kept n) s =
      rw (agree keep s.0.keep_in, steps_all H c' agree key' alike H.size (omega arith) (H.room + 2) n (held_in H (key_of o) keep kept n s.0))
  remaining_kept o own (Unlink keep kept n) s = rw (agree keep s.0.keep_in)
  remaining_kept (Add k) own (Insert here then) s = rw (agree here s.0)
  remaining_kept (Drop k) own (Insert here then) s = elim s [ ]
  remaining_kept (Find k) own (Insert here then) s = elim s [ ]
  remaining_kept (Add k) own (Strike here then) s = elim s [ ]
  remaining_kept (Drop k) own (Strike here then) s = rw (agree here s.0)
  remaining_kept (Find k) own (Strike here then) s = elim s [ ]

-- the distance's bounds
least_start : (t : Bool) (r : ℕ) → 1 ≤ cond t (r + 2) (r + r + 5)
least_start true r = omega arith
least_start false r = omega arith

least_walk : (v t : Bool) (x r : ℕ) → 1 ≤ x + cond v (cond t 1 (r + 4)) (r + r + 7)
least_walk true true x r = omega arith
least_walk true false x r = omega arith
least_walk false t x r = omega arith

least_skip : (v : Bool) (x r : ℕ) → 1 ≤ x + cond v (r + 4) (r + r + 7)
least_skip true x r = omega arith
least_skip false x r = omega arith

least_unlink : (v : Bool) (r : ℕ) → 1 ≤ cond v (r + 3) (r + r + 6)
least_unlink true r = omega arith
least_unlink false r = omega arith

least_last : (v : Bool) (r : ℕ) → 1 ≤ cond v 1 (r + r + 6)
least_last true r = omega arith
least_last false r = omega arith

most_start : (t : Bool) (r : ℕ) → cond t (r + 2) (r + r + 5) ≤ 3 * r + 7
most_start true r = omega arith
most_start false r = omega arith

most_walk : (v t : Bool) (x r : ℕ) → x ≤ r → x + cond v (cond t 1 (r + 4)) (r + r + 7) ≤ 3 * r + 7
most_walk true true x r h = omega arith
most_walk true false x r h = omega arith
most_walk false t x r h = omega arith

most_skip : (v : Bool) (x r : ℕ) → x ≤ r → x + cond v (r + 4) (r + r + 7) ≤ 3 * r + 7
most_skip true x r h = omega arith
most_skip false x r h = omega arith

most_unlink : (v : Bool) (r : ℕ) → cond v (r + 3) (r + r + 6) ≤ 3 * r + 7
most_unlink true r = omega arith
most_unlink false r = omega arith

most_last : (v : Bool) (r : ℕ) → cond v 1 (r + r + 6) ≤ 3 * r + 7
most_last true r = omega arith
most_last false r = omega arith

module _ {K : Type 0} {before : K → K → Bool} (H : Heap before) (o : NestOp K) (own : ℕ) where
  pub remaining_least : (ph : Live) → 1 ≤ remaining before H.cell H.key H.room (key_of o) ph
  remaining_least Start = least_start _ H.room
  remaining_least (Walk keep kept n) = least_walk (still (H.cell keep) kept) (tidy H (key_of o) 0) _ H.room
  remaining_least (Skip keep kept n) = least_skip _ _ H.room
  remaining_least (Unlink keep kept n) = least_unlink _ H.room
  remaining_least (Insert here then) = least_last _ H.room
  remaining_least (Strike here then) = least_last _ H.room

  held_near : (k : K) (keep kept n : ℕ) → Held before H.cell H.key H.linked k keep kept n → far_off H n ≤ H.room
  held_near k keep kept n h =
      far_most H n (leads_in H n kept h.leads h.kept_in)
      (leads_after H Low n kept h.leads h.kept_in (le_lt H.total Low (H.key keep) (H.key kept) (low_first' (H.key keep)) h.rise))
    where
      low_first' : (x : Extended K) → Le before Low x
      low_first' = low_first before

  pub remaining_most : (ph : Live) → Stands before H.cell H.key H.linked o own ph → remaining before H.cell H.key H.room (key_of o) ph ≤ 3 * H.room + 7
  remaining_most Start s = most_start _ H.room
  remaining_most (Walk keep kept n) s = most_walk (still (H.cell keep) kept) (tidy H (key_of o) 0) _ H.room (held_near (key_of o) keep kept n s.0)
  remaining_most (Skip keep kept n) s = most_skip _ _ H.room (held_near (key_of o) keep kept n s.0)
  remaining_most (Unlink keep kept n) s = most_unlink _ H.room
  remaining_most (Insert here then) s = most_last _ H.room
  remaining_most (Strike here then) s = most_last _ H.room
