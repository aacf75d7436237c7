-- What code that makes the calls has to show: what follows where no reason stands.
use Rattle.std.proofs.Common.{◌≡◌, ℕ, ◌<◌, ◌≤◌, Bool, true, false, not, ltb, List, is_some, None, Some, Ok, Option, refl, ap, ◌∙◌, arith, ltb-false}
use Rattle.keys.specs.declared.refusal.Refusal.{Refusal}
use Rattle.keys.specs.declared.refusal.Refusal.TheVariants.{ShortTable, NoSuchStation, StillFree, AlreadyReady}
use Rattle.boards.specs.Board.{Meaning, exists, is_free, is_uncounted, is_waiting}
use Rattle.boards.specs.declared.outcome.Outcome.{Outcome}
use Rattle.boards.specs.declared.station.Station.{Station}
use Rattle.boards.specs.declared.station.Station.TheVariants.{Free, Uncounted, Counted, Ready}
use Rattle.floor_model.specs.declared.line.Line.{Line}
use Rattle.floor_model.specs.Floor.{Floor, refuse_if, checked, taken_unless, Fits, touch_refusal, entry, enter}
use Rattle.floor_model.proofs.Lists.{impossible}
use Rattle.floor_model.proofs.Stations.{uncounted_some}

-- what a check lets pass has no reason against it
pub passed : (r : Option Refusal) → checked r ≡ Ok tt → r ≡ None
passed None e = refl
passed (Some c) e = impossible (cc)

-- what is not sent back is taken
pub taken : {X T : Type 0} (r : Option Refusal) (was : X) (made : X × T) → r ≡ None → taken_unless r was made ≡ (made.0, Ok made.1)
taken r was made e = ap (λ x. taken_unless x was made) e

pub same_floor : {Model : Type 0} (b d : Model) (l w v : ℕ) (t u : List ℕ) → b ≡ d → w ≡ v → t ≡ u →
    ◌≡◌ {A = Floor Model} (record { board = b; limit = l; written = w; turns = t }) (record { board = d; limit = l; written = v; turns = u })
same_floor b d l w v t u e f g = λ i. record { board = e i; limit = l; written = f i; turns = g i }

-- what is entered is of a station that waited uncounted
pub entry_uncounted : {Op Answer : Type 0} (st : Station Op Answer) (t : Outcome) (a : Option Answer) → is_some (entry st t a) ≡ true → is_uncounted st ≡ true
entry_uncounted Free t a e = impossible (cc)
entry_uncounted (Uncounted o) t a e = refl
entry_uncounted (Counted o b) t a e = impossible (cc)
entry_uncounted (Ready o b) t a e = impossible (cc)

touch_passed : (b c d e : Bool) →
    refuse_if b ShortTable (refuse_if (not c) NoSuchStation (refuse_if d StillFree (refuse_if (not e) AlreadyReady None))) ≡ None → (b ≡ false) × (c ≡ true)
touch_passed true c d e x = impossible (cc)
touch_passed false false d e x = impossible (cc)
touch_passed false true d e x = (refl, refl)

module _ {Model Plain Op Answer : Type 0} (means : Meaning Model Plain Op Answer) (f : Floor Model) (p : ℕ) where
  -- the ledger of a touch that is taken is long enough
  pub touch_long : (n : ℕ) → touch_refusal means f p n ≡ None → f.limit ≤ n
  touch_long n e = ltb-false n f.limit (touch_passed (ltb n f.limit) (exists means f.board p) (is_free (means.station f.board p)) (is_waiting (means.station f.board p)) e).0

  -- and has a line left for a station that waits uncounted
  pub touch_room : (sound : Model → Type 0) (n : ℕ) → Fits means sound f → touch_refusal means f p n ≡ None →
      is_uncounted (means.station f.board p) ≡ true → f.written < f.limit
  touch_room sound n k e u =
      let there = (touch_passed (ltb n f.limit) (exists means f.board p) (is_free (means.station f.board p)) (is_waiting (means.station f.board p)) e).1 in
      let some = uncounted_some means f.board p there u in
      let fill = k.fill in
      omega arith

pub enter_same : {Model Op Answer : Type 0} (f h : Floor Model) (p : ℕ) (ledger : List (Line Op Answer)) (d e : Option (Op × Answer)) → f ≡ h → d ≡ e →
    enter f p ledger d ≡ enter h p ledger e
enter_same f h p ledger d e x y = ap (λ z. enter z p ledger d) x ∙ ap (enter h p ledger) y
