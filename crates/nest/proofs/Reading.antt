-- What a read of a table by place gives, and that a write keeps the tables' lengths.
use Rattle.std.proofs.Common.{◌≡◌, ℕ, zero, suc, ◌+◌, ◌-◌, ◌<◌, ◌≤◌, List, [], ◌∷◌, length, get_or, set, Some, None, Option, sym, refl, ◌∙◌, arith, Bor, unwrap_or}
use lib.ListN.{length-replicate}
use lib.Seq.{set_out}
use Rattle.std.specs.Option.{option_map}
use Rattle.std.specs.Slice.{IsGetResult}
use Rattle.std.specs.List.{slice_get}
use Rattle.std.proofs.lemmas.Option.{slice_get_read, slice_get_past}
use Rattle.plain_model.specs.declared.nest_op.NestOp.{NestOp}
use Rattle.plain_model.specs.declared.nest_op.NestAnswer.{NestAnswer}
use Rattle.nest_model.specs.declared.cell.Cell.{Cell}
use Rattle.nest_model.specs.declared.pending.Pending.{Pending}
use Rattle.nest_model.specs.declared.registers.Registers.{Registers}
use Rattle.nest_model.specs.declared.work.Work.{Work}
use Rattle.nest_model.specs.declared.work.Work.TheVariants.{Free, Waiting, Ready}
use Rattle.nest_model.specs.Cells.{written}
use Rattle.nest_model.specs.Model.{NestModel, nodes_of, works_of, work_at, put_at}
use Rattle.nest_model.specs.declared.node.Node.{Node}
use Rattle.nest_model.specs.Making.{made}
use Rattle.nest_model.proofs.Made.{Sizes, made_length}
use Rattle.nest_model.proofs.Places.{length_written, put_length}
use Rattle.nest.specs.View.{IsTabled}

-- a copy of the element that `get` lends is what stands at the place
pub item_nth : {X : Type 0} (xs ys : List X) (i : ℕ) (r : Option (Bor X)) → ys ≡ xs → IsGetResult ys i i r → option_map (λ x. x.now) r ≡ slice_get xs i
item_nth xs ys i None e h = rw (← e) (sym (slice_get_past ys i h.3))
item_nth xs ys i (Some x) e h = rw (← e) (sym (slice_get_read ys (length ys) i x.now refl h.3.0 h.1))

-- stations are numbered from 1
module _ {K : Type 0} where
  nth_or : (ws : List (Work K)) (i : ℕ) → unwrap_or (slice_get ws i) Free ≡ get_or ws i Free
  nth_or [] i = refl
  nth_or (w ∷ ws) zero = refl
  nth_or (w ∷ ws) (suc i) = nth_or ws i

  pub work_read : (ws : List (Work K)) (p : ℕ) → (p ≡ 0 → ⊥) → unwrap_or (slice_get ws (p - 1)) Free ≡ work_at ws p
  work_read ws zero a = absurd (a refl)
  work_read ws (suc i) a = let e : suc i - 1 ≡ i = omega arith in rw e (nth_or ws i)

  pub put_in : (ws : List (Work K)) (p : ℕ) (w : Work K) → 0 < p → set ws (p - 1) w ≡ put_at ws p w
  put_in ws zero w h = absurd (omega arith)
  put_in ws (suc i) w h = let e : suc i - 1 ≡ i = omega arith in rw e

  pub put_past : (ws : List (Work K)) (p : ℕ) (w : Work K) → length ws ≤ p - 1 → ws ≡ put_at ws p w
  put_past ws zero w h = refl
  put_past ws (suc i) w h = sym (set_out ws i w (omega arith))

-- what is said of no work at an operation is said of a free station alone, as of the clones of one
pub free_clone : {K : Type 0} (P : Work K → Type 0) → ((w : Pending K) → P (Waiting w) → ⊥) → ((o : NestOp K) (a : NestAnswer) (r : Registers) → P (Ready o a r) → ⊥) →
    (w : Work K) → P w → w ≡ Free
free_clone P waits ready Free h = refl
free_clone P waits ready (Waiting w) h = absurd (waits w h)
free_clone P waits ready (Ready o a r) h = absurd (ready o a r h)

-- writes keep the tables' lengths
module _ {K : Type 0} (m : NestModel K) where
  pub tabled_written : (n : ℕ) (d : Cell) → IsTabled m → IsTabled (nodes_of m (written m.nodes n d))
  tabled_written n d t = record {
    some_stations = t.some_stations;
    few_stations = t.few_stations;
    some_nodes = t.some_nodes;
    few_nodes = t.few_nodes;
    tabled = length_written m.nodes n d ∙ t.tabled;
    enough = t.enough;
  }

  pub tabled_put : (p : ℕ) (w : Work K) → IsTabled m → IsTabled (works_of m (put_at m.works p w))
  tabled_put p w t = let e = put_length m.works p w in record {
    some_stations = omega (arith, t.some_stations);
    few_stations = omega (arith, t.few_stations);
    some_nodes = t.some_nodes;
    few_nodes = t.few_nodes;
    tabled = t.tabled;
    enough = t.enough;
  }

-- a nest that was just made has such tables
pub tabled_made : {K : Type 0} (stations size : ℕ) (ns : List (Node K)) {nodes works : ℕ} → size + 2 ≤ length ns → Sizes stations size nodes works → IsTabled (made stations size ns)
tabled_made {K = K} stations size ns long z = let e = length-replicate {A = Work K} stations Free in record {
  some_stations = omega (arith, z.some_stations);
  few_stations = omega (arith, z.few_stations);
  some_nodes = z.some_nodes;
  few_nodes = z.few_nodes;
  tabled = made_length stations size ns long;
  enough = omega arith;
}
