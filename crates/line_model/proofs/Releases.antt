-- The laws of release.
use Rattle.std.proofs.Common.{◌≡◌, ℕ, ◌≤◌, true, false, ◌≢◌, length, Some, sym, refl, ap, ◌∙◌, arith}
use Rattle.std.proofs.lemmas.Bool.{cond_both, cond-true, cond-false}
use Rattle.plain_model.specs.declared.line_op.LineOp.{LineOp}
use Rattle.plain_model.specs.declared.line_op.LineOp.TheVariants.{Put, Take}
use Rattle.plain_model.specs.declared.line_op.LineAnswer.{LineAnswer}
use Rattle.boards.specs.declared.station.Station.{Station}
use Rattle.boards.specs.declared.station.Station.TheVariants as station
use Rattle.boards.specs.Board.{is_free}
use Rattle.boards.specs.Laws.{KeepsOthers}
use Rattle.line_model.specs.declared.seat.Seat.TheVariants.{Free}
use Rattle.line_model.specs.Seats.{seat_of, station_of, is_ready_station, is_ready_seat}
use Rattle.line_model.specs.Line.{LineModel, has_space, released, sit}
use Rattle.line_model.specs.Distance.{needs}
use Rattle.line_model.specs.Meaning.{contents, means}
use Rattle.line_model.specs.Sound.{Sound}
use Rattle.line_model.proofs.Chains.{never, step_sound}
use Rattle.line_model.proofs.Seats.{seat_there, seat_same, seat_other}
use Rattle.line_model.proofs.Others.{seat_others, same_others}

module _ {E : Type 0} (m : LineModel E) (w : Sound m) (p : ℕ) where
  ready_there : is_ready_seat (seat_of m.seats p) ≡ true → (1 ≤ p) × (p ≤ length m.seats)
  ready_there h = seat_there m.seats p (go (station_of (seat_of m.seats p)) h)
    where
      go : (s : Station (LineOp E) (LineAnswer E)) → is_ready_station s ≡ true → is_free s ≡ false
      go station.Free h = sym h
      go (station.Uncounted o) h = refl
      go (station.Counted o a) h = refl
      go (station.Ready o a) h = refl

  -- a statement holds of the released line, if it holds where the seat is freed and of the line as it was
  by_ready : (P : LineModel E → Type 0) → (is_ready_seat (seat_of m.seats p) ≡ true → P (sit m p Free)) → P m → P (released m p)
  by_ready P f x = cond_both (is_ready_seat (seat_of m.seats p)) (sit m p Free) m P f (λ _. x)

  pub release_sound : Sound (released m p)
  release_sound =
      by_ready Sound
      (λ h. let k = ready_there h in
      step_sound m w p Free m.nodes m.taken m.head m.tail w.rank w.last k.0 k.1 w.chain
      (record { ranks = λ a _. refl; nexts = λ a b _ x. x; heads = omega arith; tails = omega arith })
      (λ q n f a _ v. v) tt (λ a y. absurd (never (Some a) (sym y) refl)))
      w

  pub release_others : KeepsOthers means m (released m p) p
  release_others = by_ready (λ k. KeepsOthers means m k p) (λ h. seat_others m (sit m p Free) p Free (ready_there h).0 refl) (same_others m p)

  pub release_frees : (o : LineOp E) (a : LineAnswer E) → station_of (seat_of m.seats p) ≡ station.Ready o a → station_of (seat_of (released m p).seats p) ≡ station.Free
  release_frees o a e =
      let h : is_ready_seat (seat_of m.seats p) ≡ true = ap is_ready_station e in let k = ready_there h in
      ap (λ x. station_of (seat_of x.seats p)) (cond-true (is_ready_seat (seat_of m.seats p)) (sit m p Free) m h) ∙ ap station_of (seat_same m.seats p Free k.0 k.1)

  pub release_idle : ((o : LineOp E) (a : LineAnswer E) → station_of (seat_of m.seats p) ≡ station.Ready o a → ⊥) → released m p ≡ m
  release_idle f = cond-false (is_ready_seat (seat_of m.seats p)) (sit m p Free) m (go (station_of (seat_of m.seats p)) f)
    where
      go : (s : Station (LineOp E) (LineAnswer E)) → ((o : LineOp E) (a : LineAnswer E) → s ≡ station.Ready o a → ⊥) → is_ready_station s ≡ false
      go station.Free f = refl
      go (station.Uncounted o) f = refl
      go (station.Counted o a) f = refl
      go (station.Ready o a) f = absurd (f o a refl)

  pub release_contents : contents (released m p) ≡ contents m
  release_contents = by_ready (λ k. contents k ≡ contents m) (λ _. refl) refl

  pub release_distances : (q : ℕ) → q ≢ p → means.distance (released m p) q ≡ means.distance m q
  release_distances q n =
      by_ready (λ k. means.distance k q ≡ means.distance m q)
      (λ h. ap (needs m.nodes m.head m.tail) (seat_other m.seats p q Free (ready_there h).0 n)) refl

  pub release_space : (o : LineOp E) → has_space (released m p) o ≡ has_space m o
  release_space (Put e) = by_ready (λ k. has_space k (Put e) ≡ has_space m (Put e)) (λ _. refl) refl
  release_space Take = refl
