-- A begin unsets every register, and a touch sets those that its row names and keeps the others.
use Rattle.std.proofs.Common.{◌≡◌, ℕ, ◌-◌, ◌≤◌, Bool, true, false, eqb, length, set, Some, None, Option, sym, refl, ap, ◌∙◌, subst}
use Rattle.plain_model.specs.declared.line_op.LineOp.{LineOp}
use Rattle.plain_model.specs.declared.line_op.LineOp.TheVariants.{Put, Take}
use Rattle.plain_model.specs.declared.line_op.LineAnswer.TheVariants as answer
use Rattle.plain_model.specs.Line.{taken as answered}
use Rattle.boards.specs.Board.{is_waiting}
use Rattle.line_model.specs.declared.seat.Seat.{Seat}
use Rattle.line_model.specs.declared.seat.Seat.TheVariants.{Free, E1, E2, E3, E4, E5, E6, D1, D2, D3, D4, D5, Ready}
use Rattle.line_model.specs.Nodes.{next_of, element_of}
use Rattle.line_model.specs.Seats.{seat_of, station_of, is_free_seat}
use Rattle.line_model.specs.Line.{LineModel, started, act, after_e3, after_e4, after_d3, after_d5}
use Rattle.line_model.specs.Registers.{Registers, registers, unset, row}
use Rattle.line_model.proofs.Seats.{seat_there, seat_same}
use Rattle.line_model.proofs.Distances.{no_wait}

module _ {E : Type 0} (m : LineModel E) (p : ℕ) where
  pub begin_registers : (o : LineOp E) → 1 ≤ p → p ≤ length m.seats → registers (seat_of (started m p o).seats p) ≡ unset
  begin_registers (Put e) lo hi = ap registers (seat_same m.seats p (E1 e m.taken None None) lo hi)
  begin_registers Take lo hi = ap registers (seat_same m.seats p (D1 None None None) lo hi)

  -- where p's seat becomes s', and p still waits
  seat_registers : (s : Seat E) → seat_of m.seats p ≡ s → is_free_seat s ≡ false → (s' : Seat E) (r : Registers) →
      (is_waiting (station_of s') ≡ true → registers s' ≡ r) →
      is_waiting (station_of (seat_of (set m.seats (p - 1) s') p)) ≡ true → registers (seat_of (set m.seats (p - 1) s') p) ≡ r
  seat_registers s at busy s' r =
      let h = seat_there m.seats p (ap is_free_seat at ∙ busy) in
      subst (λ (u : Seat E). is_waiting (station_of u) ≡ true → registers u ≡ r) (sym (seat_same m.seats p s' h.0 h.1))

  abbrev Kept : Seat E → LineModel E → Type 0
  Kept s m' = is_waiting (station_of (seat_of m'.seats p)) ≡ true → registers (seat_of m'.seats p) ≡ row m (registers s) s

  e3_registers : (e : E) (own end : ℕ) (n : Option ℕ) (t : Bool) → registers (after_e3 e own end n t) ≡ registers (E3 e own end n)
  e3_registers e own end n false = refl
  e3_registers e own end None true = refl
  e3_registers e own end (Some b) true = refl

  e4_registers : (e : E) (own end : ℕ) → seat_of m.seats p ≡ E4 e own end → (n : Option ℕ) → Kept (E4 e own end) (after_e4 m p e own end n).0
  e4_registers e own end at None = seat_registers (E4 e own end) at refl (E6 e own end) _ (λ _. refl)
  e4_registers e own end at (Some b) = seat_registers (E4 e own end) at refl (E1 e own (Some end) (Some None)) _ (λ _. refl)

  d3_registers : (first end : ℕ) (o : Option (Option ℕ)) → seat_of m.seats p ≡ D3 first end o → (t : Bool) (n : Option ℕ) → next_of m.nodes first ≡ n →
      Kept (D3 first end o) (after_d3 m p first end t n).0
  d3_registers first end o at true None d = seat_registers (D3 first end o) at refl (Ready Take answer.Empty) _ (λ f. absurd (no_wait f))
  d3_registers first end o at true (Some b) d = seat_registers (D3 first end o) at refl (D4 first end b) _ (λ _. ap (λ (x : Option ℕ). record { first = Some first; end = Some end; n = Some x }) (sym d))
  d3_registers first end o at false None d =
      seat_registers (D3 first end o) at refl (D1 (Some first) (Some end) (Some None)) _ (λ _. ap (λ (x : Option ℕ). record { first = Some first; end = Some end; n = Some x }) (sym d))
  d3_registers first end o at false (Some b) d = seat_registers (D3 first end o) at refl (D5 first end b) _ (λ _. ap (λ (x : Option ℕ). record { first = Some first; end = Some end; n = Some x }) (sym d))

  d5_registers : (first end n : ℕ) → seat_of m.seats p ≡ D5 first end n → (t : Bool) → Kept (D5 first end n) (after_d5 m p first end n t).0
  d5_registers first end n at true = seat_registers (D5 first end n) at refl (Ready Take (answered (element_of m.nodes n))) _ (λ f. absurd (no_wait f))
  d5_registers first end n at false = seat_registers (D5 first end n) at refl (D1 (Some first) (Some end) (Some (Some n))) _ (λ _. refl)

  act_registers : (s : Seat E) → seat_of m.seats p ≡ s → Kept s (act m p s).0
  act_registers Free at = λ f. absurd (no_wait (sym (ap (λ (u : Seat E). is_waiting (station_of u)) at) ∙ f))
  act_registers (E1 e own end n) at = seat_registers (E1 e own end n) at refl (E2 e own m.tail n) _ (λ _. refl)
  act_registers (E2 e own end n) at = seat_registers (E2 e own end n) at refl (E3 e own end (next_of m.nodes end)) _ (λ _. refl)
  act_registers (E3 e own end n) at = seat_registers (E3 e own end n) at refl (after_e3 e own end n (eqb m.tail end)) _ (λ _. e3_registers e own end n (eqb m.tail end))
  act_registers (E4 e own end) at = e4_registers e own end at (next_of m.nodes end)
  act_registers (E5 e own end n) at = seat_registers (E5 e own end n) at refl (E1 e own (Some end) (Some (Some n))) _ (λ _. refl)
  act_registers (E6 e own end) at = seat_registers (E6 e own end) at refl (Ready (Put e) answer.Put) _ (λ f. absurd (no_wait f))
  act_registers (D1 first end n) at = seat_registers (D1 first end n) at refl (D2 m.head end n) _ (λ _. refl)
  act_registers (D2 first end n) at = seat_registers (D2 first end n) at refl (D3 first m.tail n) _ (λ _. refl)
  act_registers (D3 first end n) at = d3_registers first end n at (eqb first end) (next_of m.nodes first) refl
  act_registers (D4 first end n) at = seat_registers (D4 first end n) at refl (D1 (Some first) (Some end) (Some (Some n))) _ (λ _. refl)
  act_registers (D5 first end n) at = d5_registers first end n at (eqb m.head first)
  act_registers (Ready o a) at = λ f. absurd (no_wait (sym (ap (λ (u : Seat E). is_waiting (station_of u)) at) ∙ f))

  pub touch_registers : Kept (seat_of m.seats p) (act m p (seat_of m.seats p)).0
  touch_registers = act_registers (seat_of m.seats p) refl
