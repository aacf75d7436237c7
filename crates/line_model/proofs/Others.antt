-- A step that writes one seat leaves every other station as it is; what a touch keeps, and where it is idle.
use Rattle.std.proofs.Common.{◌≡◌, ℕ, ◌-◌, ◌≤◌, Bool, true, false, eqb, leb, length, set, Some, None, Option, sym, refl, ap, ◌∙◌, inl, inr, length-set}
use Rattle.std.proofs.lemmas.Bool.{leb-false, and_cases}
use Rattle.plain_model.specs.declared.line_op.LineOp.TheVariants.{Put, Take}
use Rattle.plain_model.specs.declared.line_op.LineAnswer.TheVariants as answer
use Rattle.plain_model.specs.Line.{taken as answered}
use Rattle.boards.specs.declared.outcome.Outcome.TheVariants as told
use Rattle.boards.specs.declared.station.Station.TheVariants as station
use Rattle.boards.specs.Board.{is_waiting, exists}
use Rattle.boards.specs.Laws.{KeepsOthers}
use Rattle.line_model.specs.declared.seat.Seat.{Seat}
use Rattle.line_model.specs.declared.seat.Seat.TheVariants.{Free, E1, E2, E3, E4, E5, E6, D1, D2, D3, D4, D5, Ready}
use Rattle.line_model.specs.Nodes.{next_of, element_of}
use Rattle.line_model.specs.Seats.{seat_of, station_of, is_free_seat}
use Rattle.line_model.specs.Line.{LineModel, act, after_e3, after_e4, after_d3, after_d5}
use Rattle.line_model.specs.Meaning.{means}
use Rattle.line_model.proofs.Seats.{seat_there, seat_other, seat_past, seat_none}
use Rattle.line_model.proofs.Distances.{no_wait}

module _ {E : Type 0} where
  pub missing_free : (m : LineModel E) (p : ℕ) → exists means m p ≡ false → station_of (seat_of m.seats p) ≡ station.Free
  missing_free m p h = elim (and_cases (leb 1 p) (leb p (length m.seats)) h) [
    | inl x ↦ ap station_of (seat_none m.seats p (leb-false 1 p x))
    | inr x ↦ ap station_of (seat_past m.seats p (leb-false p (length m.seats) x))
  ]

  -- only p's seat is written
  pub seat_others : (m m' : LineModel E) (p : ℕ) (s : Seat E) → 1 ≤ p → m'.seats ≡ set m.seats (p - 1) s → KeepsOthers means m m' p
  seat_others m m' p s lo e = record {
    stations = ap length e ∙ length-set m.seats (p - 1) s;
    bound = refl;
    station = λ q n. ap (λ ss. station_of (seat_of ss q)) e ∙ ap station_of (seat_other m.seats p q s lo n);
  }

  pub same_others : (m : LineModel E) (p : ℕ) → KeepsOthers means m m p
  same_others m p = record { stations = refl; bound = refl; station = λ q n. refl }

  module _ (m : LineModel E) (p : ℕ) where
    act_idle : (s : Seat E) → is_waiting (station_of s) ≡ false → act m p s ≡ (m, (told.Idle, None))
    act_idle Free h = refl
    act_idle (E1 e own end n) h = absurd (no_wait (sym h))
    act_idle (E2 e own end n) h = absurd (no_wait (sym h))
    act_idle (E3 e own end n) h = absurd (no_wait (sym h))
    act_idle (E4 e own end) h = absurd (no_wait (sym h))
    act_idle (E5 e own end n) h = absurd (no_wait (sym h))
    act_idle (E6 e own end) h = absurd (no_wait (sym h))
    act_idle (D1 first end n) h = absurd (no_wait (sym h))
    act_idle (D2 first end n) h = absurd (no_wait (sym h))
    act_idle (D3 first end n) h = absurd (no_wait (sym h))
    act_idle (D4 first end n) h = absurd (no_wait (sym h))
    act_idle (D5 first end n) h = absurd (no_wait (sym h))
    act_idle (Ready o a) h = refl

    pub touch_idle : is_waiting (station_of (seat_of m.seats p)) ≡ false → act m p (seat_of m.seats p) ≡ (m, (told.Idle, None))
    touch_idle = act_idle (seat_of m.seats p)

    writes : (s : Seat E) → seat_of m.seats p ≡ s → is_free_seat s ≡ false → (m' : LineModel E) (s' : Seat E) → m'.seats ≡ set m.seats (p - 1) s' → KeepsOthers means m m' p
    writes s at busy m' s' e = seat_others m m' p s' (seat_there m.seats p (ap is_free_seat at ∙ busy)).0 e

    act_others : (s : Seat E) → seat_of m.seats p ≡ s → KeepsOthers means m (act m p s).0 p
    act_others Free at = same_others m p
    act_others (E1 e own end n) at = writes (E1 e own end n) at refl _ (E2 e own m.tail n) refl
    act_others (E2 e own end n) at = writes (E2 e own end n) at refl _ (E3 e own end (next_of m.nodes end)) refl
    act_others (E3 e own end n) at = writes (E3 e own end n) at refl _ (after_e3 e own end n (eqb m.tail end)) refl
    act_others (E4 e own end) at = go (next_of m.nodes end)
      where
        go : (n : Option ℕ) → KeepsOthers means m (after_e4 m p e own end n).0 p
        go None = writes (E4 e own end) at refl _ (E6 e own end) refl
        go (Some b) = writes (E4 e own end) at refl _ (E1 e own (Some end) (Some None)) refl
    act_others (E5 e own end n) at = writes (E5 e own end n) at refl _ (E1 e own (Some end) (Some (Some n))) refl
    act_others (E6 e own end) at = writes (E6 e own end) at refl _ (Ready (Put e) answer.Put) refl
    act_others (D1 first end n) at = writes (D1 first end n) at refl _ (D2 m.head end n) refl
    act_others (D2 first end n) at = writes (D2 first end n) at refl _ (D3 first m.tail n) refl
    act_others (D3 first end o) at = go (eqb first end) (next_of m.nodes first)
      where
        go : (t : Bool) (n : Option ℕ) → KeepsOthers means m (after_d3 m p first end t n).0 p
        go true None = writes (D3 first end o) at refl _ (Ready Take answer.Empty) refl
        go true (Some b) = writes (D3 first end o) at refl _ (D4 first end b) refl
        go false None = writes (D3 first end o) at refl _ (D1 (Some first) (Some end) (Some None)) refl
        go false (Some b) = writes (D3 first end o) at refl _ (D5 first end b) refl
    act_others (D4 first end n) at = writes (D4 first end n) at refl _ (D1 (Some first) (Some end) (Some (Some n))) refl
    act_others (D5 first end n) at = go (eqb m.head first)
      where
        go : (t : Bool) → KeepsOthers means m (after_d5 m p first end n t).0 p
        go true = writes (D5 first end n) at refl _ (Ready Take (answered (element_of m.nodes n))) refl
        go false = writes (D5 first end n) at refl _ (D1 (Some first) (Some end) (Some (Some n))) refl
    act_others (Ready o a) at = same_others m p

    pub touch_others : KeepsOthers means m (act m p (seat_of m.seats p)).0 p
    touch_others = act_others (seat_of m.seats p) refl
