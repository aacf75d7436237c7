-- The invariant of every list of calls, and that each move keeps it.
use Rattle.std.proofs.Common.{◌≡◌, ℕ, suc, ◌+◌, ◌<◌, ◌≤◌, true, false, List, [], ◌∷◌, ◌++◌, length, get_or, take, set, Some, sym, ap, ◌∙◌, subst, ⊎_elim, arith, length-set, get_or-set_other, get_or-set_same, take-suc-set}
use Rattle.std.proofs.lemmas.Bool.{cases_eq}
use Rattle.plain_model.specs.Machine.{Machine}
use Rattle.boards.specs.Board.{Steps, Meaning, is_uncounted, exists, uncounted}
use Rattle.boards.specs.Laws.{Laws}
use Rattle.floor_model.specs.Floor.{turn, line}
use Rattle.floor_model.specs.History.{State, Event, started, touched, collected, starts}
use Rattle.floor_model.specs.Law.{lines}
use Rattle.floor_model.proofs.Histories.{starts_same, starts_other}
use Rattle.boards.proofs.Stations.{exists_within}
use Rattle.floor_model.proofs.Stations.{uncounted_more, uncounted_less, uncounted_same}
use Rattle.floor_model.proofs.Moves.{Move, sends_back, shows, begins, passes, tallies, frees}
use Rattle.floor_model.proofs.Book.{Book, refused_book, shown_book, started_book, passed_book, tallied_book, collected_book}

module _ {Model Plain Op Answer Item : Type 0} (plain : Machine Plain Op Answer Item) (steps : Steps Model Op Answer)
    (means : Meaning Model Plain Op Answer) (sound : Model → Type 0) where
  pub record Kept (limit : ℕ) (s : State Model Op Answer) (h : List (Event Op Answer Item)) : Type 0 where
    pub sound_board : sound s.floor.board
    pub same_limit : s.floor.limit ≡ limit
    pub room : limit ≤ length s.ledger
    pub fill : s.floor.written + uncounted means s.floor.board ≤ limit
    pub turns_room : 17 ≤ length s.floor.turns
    pub turns : (p : ℕ) → turn s.floor p ≡ starts h p
    pub book : Book plain h (lines plain steps means s) (means.station s.floor.board) (means.contents s.floor.board)

  module _ (laws : Laws plain steps means sound) (limit : ℕ) (s : State Model Op Answer) (h : List (Event Op Answer Item)) (k : Kept limit s h) where
    in_turns : (p : ℕ) → exists means s.floor.board p ≡ true → p < length s.floor.turns
    in_turns p there =
        let b = exists_within means s.floor.board p there in
        let few = laws.few_stations s.floor.board k.sound_board in
        let z = k.turns_room in
        omega arith

    turns_started : (p : ℕ) (o : Op) → exists means s.floor.board p ≡ true → (q : ℕ) →
        get_or (set s.floor.turns p (suc (turn s.floor p))) q 0 ≡ starts (started p o ∷ h) q
    turns_started p o there q =
        ⊎_elim
        (λ d. subst (λ x. get_or (set s.floor.turns p (suc (turn s.floor p))) x 0 ≡ starts (started p o ∷ h) x) (sym d)
        (get_or-set_same s.floor.turns p _ 0 (in_turns p there) ∙ ap suc (k.turns p) ∙ sym (starts_same h p o)))
        (λ d. get_or-set_other s.floor.turns p q _ 0 d ∙ k.turns q ∙ sym (starts_other h p q o d))
        (cases_eq q p)

    pub kept_on : (t : State Model Op Answer) (e : Event Op Answer Item) → Move plain steps means sound s t e → Kept limit t (e ∷ h)
    kept_on t e (sends_back c) = record {
      sound_board = k.sound_board;
      same_limit = k.same_limit;
      room = k.room;
      fill = k.fill;
      turns_room = k.turns_room;
      turns = k.turns;
      book = refused_book plain h _ _ _ k.book c;
    }
    kept_on t e (shows handed left is) = record {
      sound_board = k.sound_board;
      same_limit = k.same_limit;
      room = k.room;
      fill = k.fill;
      turns_room = k.turns_room;
      turns = k.turns;
      book = shown_book plain h _ _ _ k.book handed left is;
    }
    kept_on t e (begins m p o c) =
        let more = uncounted_more means s.floor.board m p c.at.keeps (ap is_uncounted c.was) in
        record {
          sound_board = c.at.stays_sound;
          same_limit = k.same_limit;
          room = k.room;
          fill = let a = k.fill in let b = k.same_limit in let d = c.room in omega arith;
          turns_room = let a = k.turns_room in simp length-set (omega arith);
          turns = turns_started p o c.at.there;
          book = subst (Book plain (started p o ∷ h) (lines plain steps means s) (means.station m)) (sym c.same)
              (started_book plain h _ _ _ k.book (means.station m) p c.at.keeps.station o c.was c.is);
        }
    kept_on t e (passes m p w b c) =
        let un : is_uncounted (means.station m p) ≡ is_uncounted (means.station s.floor.board p) =
        ⊎_elim (λ x. ap is_uncounted x) (λ x. ap is_uncounted x.3 ∙ sym (ap is_uncounted x.2)) c.step in
        let same = uncounted_same means s.floor.board m p c.touches.at.keeps un in
        record {
          sound_board = c.touches.at.stays_sound;
          same_limit = k.same_limit;
          room = k.room;
          fill = let a = k.fill in omega arith;
          turns_room = k.turns_room;
          turns = k.turns;
          book = subst (Book plain (touched p w b ∷ h) (lines plain steps means s) (means.station m)) (sym c.same)
              (passed_book plain h _ _ _ k.book (means.station m) p c.touches.at.keeps.station w b c.silent c.touches.waits_on c.step);
        }
    kept_on t e (tallies m p w o a c) =
        let f = s.floor in
        let un : is_uncounted (means.station m p) ≡ false = ⊎_elim (λ x. ap is_uncounted x) (λ x. ap is_uncounted x) c.is in
        let less = uncounted_less means f.board m p c.touches.at.keeps c.touches.at.there (ap is_uncounted c.was) un in
        let fill = k.fill in let room = k.room in
        let within : f.written < length s.ledger = omega arith in
        let grown : take (suc f.written) (set s.ledger f.written (line p (turn f p) o a)) ≡ lines plain steps means s ++ line p (starts h p) o a ∷ [] =
        take-suc-set s.ledger f.written _ within ∙ ap (λ x. lines plain steps means s ++ line p x o a ∷ []) (k.turns p) in
        record {
          sound_board = c.touches.at.stays_sound;
          same_limit = k.same_limit;
          room = simp length-set room;
          fill = omega arith;
          turns_room = k.turns_room;
          turns = k.turns;
          book = subst (λ x. Book plain (touched p w (Some a) ∷ h) x (means.station m) (means.contents m)) (sym grown)
              (tallied_book plain h _ _ _ k.book (means.station m) p c.touches.at.keeps.station w o a (means.contents m)
              c.telling c.touches.waits_on c.was c.is c.applies);
        }
    kept_on t e (frees m p o a c) =
        let same = uncounted_same means s.floor.board m p c.at.keeps (ap is_uncounted c.is ∙ sym (ap is_uncounted c.was)) in
        record {
          sound_board = c.at.stays_sound;
          same_limit = k.same_limit;
          room = k.room;
          fill = let a = k.fill in omega arith;
          turns_room = k.turns_room;
          turns = k.turns;
          book = subst (Book plain (collected p a ∷ h) (lines plain steps means s) (means.station m)) (sym c.same)
              (collected_book plain h _ _ _ k.book (means.station m) p c.at.keeps.station o a c.was c.is);
        }
