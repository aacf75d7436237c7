-- A station's new work in a heap after a step keeps a nest sound.
use Rattle.std.proofs.Common.{◌≡◌, ℕ, ◌+◌, ◌≤◌, Bool, ◌≢◌, length, Some, None, Option, sym, refl, ap, ◌∙◌, ⊎_elim, true≢false, arith}
use Rattle.std.proofs.lemmas.Bool.{cases_eq}
use Rattle.keys.specs.Order.{Total}
use Rattle.plain_model.specs.declared.nest_op.NestOp.{NestOp}
use Rattle.plain_model.specs.declared.nest_op.NestOp.TheVariants.{Add, Drop, Find}
use Rattle.nest_model.specs.declared.phase.Phase.{Phase}
use Rattle.nest_model.specs.declared.registers.Registers.{Registers}
use Rattle.nest_model.specs.declared.work.Work.{Work}
use Rattle.nest_model.specs.Cells.{node, cell_at, key_at}
use Rattle.nest_model.specs.Model.{NestModel, work_at, put_at, waiting}
use Rattle.nest_model.specs.Sound.{Owns, Works, own_of, Sound}
use Rattle.nest_model.proofs.Heap.{Heap}
use Rattle.nest_model.proofs.Kept.{owns_out, works_kept}
use Rattle.nest_model.proofs.Places.{Here, put_same, put_other, put_length}
use Rattle.nest_model.proofs.Fine.{Stepped}

module _ {K : Type 0} {before : K → K → Bool} (total : Total before) where
  abbrev pub heap_of : (m : NestModel K) → Sound before m → Heap before
  heap_of m s = record {
    total = total;
    cell = cell_at m.nodes;
    key = key_at m.nodes;
    size = m.taken + 2;
    room = m.size;
    linked = s.linked;
    ok = s.chain;
    enough = let a = s.enough in omega arith;
  }

  -- nothing changes in the heap
  abbrev pub stay : (m : NestModel K) (s : Sound before m) (own : ℕ) → Stepped (heap_of m s) (cell_at m.nodes) (key_at m.nodes) (m.taken + 2) own
  stay m s own = record {
    linked = s.linked;
    ok = s.chain;
    alike = λ n fit. refl;
    larger = omega arith;
    more = λ n l. l;
    frozen = λ n l t. refl;
    others = λ n fit d f. (f, refl);
  }

  module _ (m : NestModel K) (s : Sound before m) (p : ℕ) (h : Here m.works p) (own : ℕ)
      (apart : (q : ℕ) → q ≢ p → (n : ℕ) → own_of (work_at m.works q) ≡ Some n → n ≢ own)
      (m' : NestModel K) (w : Work K) (works-is : m'.works ≡ put_at m.works p w)
      (enough' : m'.taken ≤ m'.size) (tabled' : length m'.nodes ≡ m'.size + 2)
      (size' : ℕ) (size_is : m'.taken + 2 ≡ size')
      (st : Stepped (heap_of m s) (cell_at m'.nodes) (key_at m'.nodes) size' own)
      (mine : (n : ℕ) → own_of w ≡ Some n → n ≡ own)
      (good : Works before (cell_at m'.nodes) (key_at m'.nodes) size' st.linked w) where
    other_is : (q : ℕ) → q ≢ p → work_at m'.works q ≡ work_at m.works q
    other_is q d = rw works-is (put_other m.works p w q d)

    mine_is : work_at m'.works p ≡ w
    mine_is = rw works-is (put_same m.works p w h)

    pub sound_put : Sound before m'
    sound_put = record {
      some_stations = let a = s.some_stations in omega (arith, ap length works-is ∙ put_length m.works p w);
      few_stations = let a = s.few_stations in omega (arith, ap length works-is ∙ put_length m.works p w);
      enough = enough';
      tabled = tabled';
      linked = st.linked;
      chain = rw size_is st.ok;
      each = λ q.
          rw size_is
          (⊎_elim (λ e. rw e (rw mine_is good))
          (λ d. rw (other_is q d) (works_kept (heap_of m s) (cell_at m'.nodes) (key_at m'.nodes) size' own st (work_at m.works q) (apart q d) (s.each q)))
          (cases_eq q p));
      apart = λ q r d n eq er.
          ⊎_elim
          (λ e. ⊎_elim (λ e'. d (e ∙ sym e'))
          (λ d'. apart r d' n (rw (other_is r d') at er) (mine n (rw mine_is at (rw e at eq)))) (cases_eq r p))
          (λ d'. ⊎_elim (λ e. apart q d' n (rw (other_is q d') at eq) (mine n (rw mine_is at (rw e at er))))
          (λ d''. s.apart q r d n (rw (other_is q d') at eq) (rw (other_is r d'') at er)) (cases_eq r p))
          (cases_eq q p);
    }

  pub waiting_own : (own : Option ℕ) (n : ℕ) → own ≡ Some n → n ≡ node own
  waiting_own own n e = sym (ap node e)

  pub none_own : {A : Type 0} (n : ℕ) → ◌≡◌ {A = Option ℕ} None (Some n) → A
  none_own n e = let z : ◌≡◌ {A = ℕ} 0 1 = cc in absurd (omega arith)

  -- the node of a waiting add is not linked, so it is not the back
  pub back_apart : (m : NestModel K) (s : Sound before m) (q n : ℕ) → own_of (work_at m.works q) ≡ Some n → n ≢ 1
  back_apart m s q n e z =
      let out = owns_out before (cell_at m.nodes) (key_at m.nodes) (m.taken + 2) s.linked (work_at m.works q) n (s.each q) e in
      true≢false (sym s.chain.back_in ∙ ap s.linked (sym z) ∙ out.0)

  pub own_apart : (m : NestModel K) (s : Sound before m) (p : ℕ) (o : NestOp K) (own : Option ℕ) (ph : Phase) (r : Registers) → work_at m.works p ≡ waiting o own ph r →
      Owns before (key_at m.nodes) (m.taken + 2) s.linked o own →
      (q : ℕ) → q ≢ p → (n : ℕ) → own_of (work_at m.works q) ≡ Some n → n ≢ node own
  own_apart m s p (Add k) own ph r at_p owns q d n e z = s.apart q p d n e (ap own_of at_p ∙ owns.3 ∙ ap Some (sym z))
  own_apart m s p (Drop k) own ph r at_p owns q d n e z = back_apart m s q n e (z ∙ ap node owns)
  own_apart m s p (Find k) own ph r at_p owns q d n e z = back_apart m s q n e (z ∙ ap node owns)
