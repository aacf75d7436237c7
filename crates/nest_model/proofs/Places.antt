-- The node table and the station table, by place.
use Rattle.std.proofs.Common.{◌≡◌, ℕ, zero, suc, ◌+◌, ◌<◌, ◌≤◌, true, false, ◌&&◌, leb, ◌≢◌, List, [], ◌∷◌, length, set, Some, None, Option, sym, refl, ap, ◌∙◌, ⊎_elim, true≢false, arith, length-set, get_or-set_other, get_or-set_same}
use lib.ListN.{get_or-eq_default}
use Rattle.std.specs.List.{slice_get}
use Rattle.std.proofs.lemmas.Option.{slice_get_past}
use Rattle.std.proofs.lemmas.Bool.{cases_lt, cases_eq, leb-true, le-leb, and_from, and_parts}
use Rattle.nest_model.specs.declared.cell.Cell.{Cell}
use Rattle.nest_model.specs.declared.node.Node.{Node}
use Rattle.nest_model.specs.declared.work.Work.{Work}
use Rattle.nest_model.specs.declared.work.Work.TheVariants.{Free}
use Rattle.nest_model.specs.Ends.{Mid}
use Rattle.nest_model.specs.Cells.{cell_in, key_in, cell_at, key_at, written_to, written}
use Rattle.nest_model.specs.Model.{work_at, put_at}

-- what stands at a place after a write
module _ {A : Type 0} where
  pub nth_same : (xs : List A) (i : ℕ) (x : A) → i < length xs → slice_get (set xs i x) i ≡ Some x
  nth_same [] i x h = absurd (omega arith)
  nth_same (y ∷ ys) zero x h = refl
  nth_same (y ∷ ys) (suc i) x h = nth_same ys i x (omega arith)

  pub nth_other : (xs : List A) (i : ℕ) (x : A) (j : ℕ) → j ≢ i → slice_get (set xs i x) j ≡ slice_get xs j
  nth_other [] i x j ne = refl
  nth_other (y ∷ ys) zero x zero ne = absurd (ne refl)
  nth_other (y ∷ ys) zero x (suc j) ne = refl
  nth_other (y ∷ ys) (suc i) x zero ne = refl
  nth_other (y ∷ ys) (suc i) x (suc j) ne = nth_other ys i x j (λ e. ne (ap suc e))

  pub nth_some : (xs : List A) (i : ℕ) → i < length xs → (x : A) × (slice_get xs i ≡ Some x)
  nth_some [] i h = absurd (omega arith)
  nth_some (y ∷ ys) zero h = (y, refl)
  nth_some (y ∷ ys) (suc i) h = nth_some ys i (omega arith)

module _ {K : Type 0} where
  -- what a read of the table gives, and a write past it
  pub key_read : (ns : List (Node K)) (n : ℕ) → (n ≡ 0 → ⊥) → (n ≡ 1 → ⊥) → key_at ns n ≡ key_in (slice_get ns n)
  key_read ns zero a b = absurd (a refl)
  key_read ns (suc zero) a b = absurd (b refl)
  key_read ns (suc (suc i)) a b = refl

  pub written_past : (ns : List (Node K)) (x : ℕ) (d : Cell) → length ns ≤ x → written ns x d ≡ ns
  written_past ns x d h = ap (written_to ns x d) (slice_get_past ns x h)

  pub written_some : (ns : List (Node K)) (x : ℕ) (d : Cell) (y : Node K) → slice_get ns x ≡ Some y → written ns x d ≡ set ns x (record { key = y.key; cell = d })
  written_some ns x d y e = ap (written_to ns x d) e

  pub cell_written : (ns : List (Node K)) (x : ℕ) (d : Cell) → x < length ns → cell_at (written ns x d) x ≡ d
  cell_written ns x d h =
      let y = nth_some ns x h in
      ap (λ (t : List (Node K)). cell_at t x) (written_some ns x d y.0 y.1) ∙ ap cell_in (nth_same ns x (record { key = y.0.key; cell = d }) h)

  -- a write keeps what reads at every place alike
  kept_by : {A : Type 0} (f : Option (Node K) → A) (ns : List (Node K)) (x : ℕ) (d : Cell) (n : ℕ) →
      ((y : Node K) → slice_get ns x ≡ Some y → f (slice_get (set ns x (record { key = y.key; cell = d })) n) ≡ f (slice_get ns n)) → f (slice_get (written ns x d) n) ≡ f (slice_get ns n)
  kept_by f ns x d n h = go (slice_get ns x) refl
    where
      go : (o : Option (Node K)) → slice_get ns x ≡ o → f (slice_get (written_to ns x d o) n) ≡ f (slice_get ns n)
      go None e = refl
      go (Some y) e = h y e

  pub cell_other : (ns : List (Node K)) (x : ℕ) (d : Cell) (n : ℕ) → n ≢ x → cell_at (written ns x d) n ≡ cell_at ns n
  cell_other ns x d n ne = kept_by cell_in ns x d n (λ y e. ap cell_in (nth_other ns x _ n ne))

  key_in_written : (ns : List (Node K)) (x : ℕ) (d : Cell) (n : ℕ) → key_in (slice_get (written ns x d) n) ≡ key_in (slice_get ns n)
  key_in_written ns x d n =
      kept_by key_in ns x d n
      (λ y e.
      ⊎_elim
      (λ q. ⊎_elim
      (λ h. rw q (ap key_in (nth_same ns x (record { key = y.key; cell = d }) h) ∙ sym (ap key_in e)))
      (λ h. absurd (let z : ◌≡◌ {A = Option (Node K)} None (Some y) = sym (slice_get_past ns x h) ∙ e in let w : ◌≡◌ {A = ℕ} 0 1 = cc in omega arith))
      (cases_lt x (length ns)))
      (λ ne. ap key_in (nth_other ns x _ n ne)) (cases_eq n x))

  pub key_written : (ns : List (Node K)) (x : ℕ) (d : Cell) → key_at (written ns x d) ≡ key_at ns
  key_written ns x d = λ i n. at n i
    where
      at : (n : ℕ) → key_at (written ns x d) n ≡ key_at ns n
      at zero = refl
      at (suc zero) = refl
      at (suc (suc n)) = key_in_written ns x d (suc (suc n))

  pub length_written : (ns : List (Node K)) (x : ℕ) (d : Cell) → length (written ns x d) ≡ length ns
  length_written ns x d = go (slice_get ns x)
    where
      go : (o : Option (Node K)) → length (written_to ns x d o) ≡ length ns
      go None = refl
      go (Some y) = length-set ns x _

  -- one node more
  pub cell_old : (ns : List (Node K)) (x : Node K) (t n : ℕ) → n < t → cell_at (set ns t x) n ≡ cell_at ns n
  cell_old ns x t n h = ap cell_in (nth_other ns t x n (omega arith))

  pub key_old : (ns : List (Node K)) (x : Node K) (t n : ℕ) → n < t → key_at (set ns t x) n ≡ key_at ns n
  key_old ns x t zero h = refl
  key_old ns x t (suc zero) h = refl
  key_old ns x t (suc (suc i)) h = ap key_in (nth_other ns t x (suc (suc i)) (omega arith))

  pub key_new : (ns : List (Node K)) (x : Node K) (t : ℕ) → t + 2 < length ns → key_at (set ns (t + 2) x) (t + 2) ≡ Mid x.key
  key_new ns x t h = let e : t + 2 ≡ suc (suc t) = omega arith in rw e (ap key_in (nth_same ns (suc (suc t)) x (omega arith)))

  -- the stations that are there
  pub Here : List (Work K) → ℕ → Type 0
  Here ws p = (1 ≤ p) × (p ≤ length ws)

  pub here_by : (ws : List (Work K)) (p : ℕ) → (leb 1 p && leb p (length ws)) ≡ true → Here ws p
  unfolding Here
  here_by ws p e = let q = and_parts (leb 1 p) (leb p (length ws)) e in (leb-true 1 p q.0, leb-true p (length ws) q.1)

  pub work_missing : (ws : List (Work K)) (p : ℕ) → (leb 1 p && leb p (length ws)) ≡ false → work_at ws p ≡ Free
  work_missing ws zero e = refl
  work_missing ws (suc i) e =
      ⊎_elim
      (λ h. absurd (true≢false (sym (and_from (leb 1 (suc i)) (leb (suc i) (length ws)) (le-leb 1 (suc i) (omega arith)) (le-leb (suc i) (length ws) (omega arith))) ∙ e)))
      (λ h. get_or-eq_default ws Free h) (cases_lt i (length ws))

  pub here_work : (ws : List (Work K)) (p : ℕ) (w : Work K) → work_at ws p ≡ w → (w ≡ Free → ⊥) → Here ws p
  unfolding Here
  here_work ws zero w e ne = absurd (ne (sym e))
  here_work ws (suc i) w e ne =
      ⊎_elim (λ h. (omega arith, omega arith)) (λ h. absurd (ne (sym e ∙ get_or-eq_default ws Free h))) (cases_lt i (length ws))

  pub put_same : (ws : List (Work K)) (p : ℕ) (w : Work K) → Here ws p → work_at (put_at ws p w) p ≡ w
  unfolding Here
  put_same ws zero w h = absurd (omega (arith, h.0))
  put_same ws (suc i) w h = get_or-set_same ws i w Free (omega (arith, h.1))

  pub put_other : (ws : List (Work K)) (p : ℕ) (w : Work K) (q : ℕ) → q ≢ p → work_at (put_at ws p w) q ≡ work_at ws q
  put_other ws zero w q ne = refl
  put_other ws (suc i) w zero ne = refl
  put_other ws (suc i) w (suc j) ne = get_or-set_other ws i j w Free (λ e. ne (ap suc e))

  pub put_length : (ws : List (Work K)) (p : ℕ) (w : Work K) → length (put_at ws p w) ≡ length ws
  put_length ws zero w = refl
  put_length ws (suc i) w = length-set ws i w
