-- Opening gives a floor that fits, and every move keeps it so.
use Rattle.std.proofs.Common.{◌≡◌, ℕ, suc, ◌<◌, true, false, ◌&&◌, leb, List, [], length, get_or, set, sym, refl, ap, ◌∙◌, subst, ⊎_elim, arith, length-set, get_or-set_other, get_or-set_same}
use Rattle.std.proofs.lemmas.Bool.{cases_eq}
use Rattle.plain_model.specs.Machine.{Machine}
use Rattle.boards.specs.Board.{Steps, Meaning, is_uncounted, exists, all_free}
use Rattle.boards.specs.Laws.{Laws}
use Rattle.boards.specs.declared.station.Station.{Station}
use Rattle.boards.specs.declared.station.Station.TheVariants.{Free, Uncounted, Counted, Ready}
use Rattle.floor_model.specs.declared.line.Line.{Line}
use Rattle.floor_model.specs.Floor.{Floor, turn, opened, with_board, Fits, start, touch}
use Rattle.floor_model.specs.History.{State, to_start, to_touch, Event}
use Rattle.floor_model.proofs.Lists.{impossible, get_d_zeros}
use Rattle.boards.proofs.Stations.{exists_within}
use Rattle.floor_model.proofs.Stations.{all_free_none, uncounted_more, uncounted_less, uncounted_same, turned}
use Rattle.floor_model.proofs.Moves.{Move, sends_back, shows, begins, passes, tallies, frees, moves}

pub opened_fits : {Model Plain Op Answer : Type 0} (means : Meaning Model Plain Op Answer) (sound : Model → Type 0) (m : Model) (limit : ℕ) →
    sound m → all_free means m ≡ true → Fits means sound (opened m limit)
opened_fits means sound m limit ok free =
    let none = all_free_none means m free in
    record {
      sound_board = ok;
      fill = omega arith;
      turns_room = refl;
      low_turns = λ p. let z = get_d_zeros 17 p in omega arith;
    }

module _ {Model Plain Op Answer Item : Type 0} (plain : Machine Plain Op Answer Item) (steps : Steps Model Op Answer)
    (means : Meaning Model Plain Op Answer) (sound : Model → Type 0) (laws : Laws plain steps means sound) where
  in_turns : (f : Floor Model) → Fits means sound f → (p : ℕ) → exists means f.board p ≡ true → p < length f.turns
  in_turns f k p there =
      let b = exists_within means f.board p there in
      let few = laws.few_stations f.board k.sound_board in
      let room = k.turns_room in
      omega arith

  fits_on : (s t : State Model Op Answer) (e : Event Op Answer Item) → Fits means sound s.floor → Move plain steps means sound s t e → Fits means sound t.floor
  fits_on s t e k (sends_back c) = k
  fits_on s t e k (shows i j q) = k
  fits_on s t e k (begins m p o c) =
      let f = s.floor in
      let more = uncounted_more means f.board m p c.at.keeps (ap is_uncounted c.was) in
      let back = uncounted_less means m f.board p (turned means f.board m p c.at.keeps)
      (ap (λ x. leb 1 p && leb p x) c.at.keeps.stations ∙ c.at.there) (ap is_uncounted c.is) (ap is_uncounted c.was) in
      let fill = k.fill in let free = c.room in
      record {
        sound_board = c.at.stays_sound;
        fill = omega arith;
        turns_room = length-set f.turns p _ ∙ k.turns_room;
        low_turns = λ q. let old = k.low_turns q in
            ⊎_elim
            (λ d. let z : get_or (set f.turns p (suc (turn f p))) q 0 ≡ suc (turn f q) =
            subst (λ x. get_or (set f.turns p (suc (turn f p))) x 0 ≡ suc (turn f x)) (sym d) (get_or-set_same f.turns p _ 0 (in_turns f k p c.at.there)) in omega arith)
            (λ d. let z = get_or-set_other f.turns p q (suc (turn f p)) 0 d in omega arith)
            (cases_eq q p);
      }
  fits_on s t e k (passes m p w b c) =
      let un : is_uncounted (means.station m p) ≡ is_uncounted (means.station s.floor.board p) =
      ⊎_elim (λ x. ap is_uncounted x) (λ x. ap is_uncounted x.3 ∙ sym (ap is_uncounted x.2)) c.step in
      let same = uncounted_same means s.floor.board m p c.touches.at.keeps un in
      let fill = k.fill in
      record { sound_board = c.touches.at.stays_sound; fill = omega arith; turns_room = k.turns_room; low_turns = λ q. let old = k.low_turns q in omega arith }
  fits_on s t e k (tallies m p w o a c) =
      let un : is_uncounted (means.station m p) ≡ false = ⊎_elim (λ x. ap is_uncounted x) (λ x. ap is_uncounted x) c.is in
      let less = uncounted_less means s.floor.board m p c.touches.at.keeps c.touches.at.there (ap is_uncounted c.was) un in
      let back = uncounted_more means m s.floor.board p (turned means s.floor.board m p c.touches.at.keeps) un in
      let fill = k.fill in
      record { sound_board = c.touches.at.stays_sound; fill = omega arith; turns_room = k.turns_room; low_turns = λ q. let old = k.low_turns q in omega arith }
  fits_on s t e k (frees m p o a c) =
      let same = uncounted_same means s.floor.board m p c.at.keeps (ap is_uncounted c.is ∙ sym (ap is_uncounted c.was)) in
      let fill = k.fill in
      record { sound_board = c.at.stays_sound; fill = omega arith; turns_room = k.turns_room; low_turns = λ q. let old = k.low_turns q in omega arith }

  module _ (f : Floor Model) (k : Fits means sound f) where
    pub start_fits : (p : ℕ) (o : Op) → Fits means sound (start steps means f p o).0
    start_fits p o =
        let s : State Model Op Answer = record { floor = f; ledger = [] } in
        fits_on s _ _ k (moves plain steps means sound laws s k.sound_board refl (to_start p o))

    pub touch_fits : (p : ℕ) (ledger : List (Line Op Answer)) → Fits means sound (touch steps means f p ledger).0.0
    touch_fits p ledger =
        let s : State Model Op Answer = record { floor = f; ledger = ledger } in
        fits_on s _ _ k (moves plain steps means sound laws s k.sound_board refl (to_touch p))

    pub release_fits : (p : ℕ) → Fits means sound (with_board f (steps.release f.board p))
    release_fits p = by (means.station f.board p) refl
      where
        idle : ((o : Op) (a : Answer) → means.station f.board p ≡ Ready o a → ⊥) → Fits means sound (with_board f (steps.release f.board p))
        idle none = subst (λ m. Fits means sound (with_board f m)) (sym (laws.release_idle f.board p k.sound_board none)) k

        by : (st : Station Op Answer) → means.station f.board p ≡ st → Fits means sound (with_board f (steps.release f.board p))
        by Free e = idle (λ o a x. impossible (cc))
        by (Uncounted u) e = idle (λ o a x. impossible (cc))
        by (Counted u b) e = idle (λ o a x. impossible (cc))
        by (Ready o a) e =
            let m = f.board in
            let same = uncounted_same means m (steps.release m p) p (laws.release_others m p k.sound_board)
            (ap is_uncounted (laws.release_frees m p o a k.sound_board e) ∙ sym (ap is_uncounted e)) in
            let fill = k.fill in
            record {
              sound_board = laws.release_sound m p k.sound_board;
              fill = omega arith;
              turns_room = k.turns_room;
              low_turns = λ q. let old = k.low_turns q in omega arith;
            }
