-- Which stations exist, and which are free where all are.
use Rattle.std.proofs.Common.{◌≡◌, ℕ, zero, suc, ◌+◌, ◌-◌, ◌≤◌, Bool, true, cond, leb, refl, sym, ap, ◌∙◌, ⊎_elim, arith}
use Rattle.std.proofs.lemmas.Bool.{and_parts, and_from, cases_Bool, cases_eq, leb-true, false≢true}
use Rattle.plain_model.specs.Machine.{Machine}
use Rattle.boards.specs.Board.{Steps, Meaning, is_free, is_uncounted, exists, free_to, all_free, uncounted_to}
use Rattle.boards.specs.Laws.{Laws}
use Rattle.boards.specs.declared.station.Station.{Station}
use Rattle.boards.specs.declared.station.Station.TheVariants.{Free, Uncounted, Counted, Ready}

pub free_is : {Op Answer : Type 0} (x : Station Op Answer) → is_free x ≡ true → x ≡ Free
free_is Free e = refl
free_is (Uncounted o) e = absurd (false≢true e)
free_is (Counted o a) e = absurd (false≢true e)
free_is (Ready o a) e = absurd (false≢true e)

module _ {Model Plain Op Answer : Type 0} (means : Meaning Model Plain Op Answer) (m : Model) where
  -- a station that exists is one of those numbered from 1
  pub exists_within : (p : ℕ) → exists means m p ≡ true → (1 ≤ p) × (p ≤ means.stations m)
  exists_within p x =
      let b = and_parts (leb 1 p) (leb p (means.stations m)) x in
      (leb-true 1 p b.0, leb-true p (means.stations m) b.1)

  -- one station more is counted
  pub uncounted_next : (p : ℕ) (b : Bool) → 1 ≤ p → is_uncounted (means.station m p) ≡ b →
      uncounted_to means m (p + 1 - 1) ≡ cond b (suc (uncounted_to means m (p - 1))) (uncounted_to means m (p - 1))
  uncounted_next zero b l e = absurd (omega arith)
  uncounted_next (suc n) b l e =
      let up : suc n + 1 - 1 ≡ suc n = omega arith in
      let down : suc n - 1 ≡ n = omega arith in
      ap (uncounted_to means m) up ∙ ap (λ x. cond x (suc (uncounted_to means m n)) (uncounted_to means m n)) e ∙
      ap (λ k. cond b (suc (uncounted_to means m k)) (uncounted_to means m k)) (sym down)

  -- one station of those that are free is free
  free_to_each : (n p : ℕ) → free_to means m n ≡ true → 1 ≤ p → p ≤ n → means.station m p ≡ Free
  free_to_each zero p free some last = absurd (omega arith)
  free_to_each (suc n) p free some last =
      let b = and_parts (is_free (means.station m (suc n))) (free_to means m n) free in
      ⊎_elim (λ same. ap (means.station m) same ∙ free_is (means.station m (suc n)) b.0)
      (λ other. free_to_each n p b.1 some (omega arith)) (cases_eq p (suc n))

  each_free_to : ((p : ℕ) → means.station m p ≡ Free) → (n : ℕ) → free_to means m n ≡ true
  each_free_to free zero = refl
  each_free_to free (suc n) = and_from _ _ (ap is_free (free (suc n))) (each_free_to free n)

  pub all_free_each : ((p : ℕ) → means.station m p ≡ Free) → all_free means m ≡ true
  all_free_each free = each_free_to free (means.stations m)

-- where all stations of a sound board are free, so is every number
pub each_free : {Model Plain Op Answer Item : Type 0} {plain : Machine Plain Op Answer Item} {steps : Steps Model Op Answer} {means : Meaning Model Plain Op Answer}
    {sound : Model → Type 0} → Laws plain steps means sound → (m : Model) → sound m → all_free means m ≡ true → (p : ℕ) → means.station m p ≡ Free
each_free {means = means} laws m ok free p =
    ⊎_elim
    (λ there. let b = exists_within means m p there in free_to_each means m (means.stations m) p free b.0 b.1)
    (laws.missing_free m p ok) (cases_Bool (exists means m p))
