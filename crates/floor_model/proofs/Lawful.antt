-- The law of a floor, from what every move keeps.
use Rattle.std.proofs.Common.{◌≡◌, ℕ, suc, ◌+◌, ◌<◌, ◌≤◌, Bool, true, false, not, ◌≢◌, ◌⊎◌, List, [], ◌∷◌, ◌++◌, length, take, Some, None, Option, sym, refl, ap, ◌∙◌, subst, inl, inr, ⊎_elim, append-nil, arith, length-take-le}
use lib.Seq.{take-set-le}
use Rattle.std.proofs.lemmas.Bool.{le-ltb}
use Rattle.keys.specs.declared.refusal.Refusal.TheVariants.{ShortTable, NoSuchStation, StillFree, AlreadyReady}
use Rattle.plain_model.specs.Machine.{Machine}
use Rattle.boards.specs.Board.{Steps, Meaning, Fresh, is_free, is_waiting, exists}
use Rattle.boards.specs.Laws.{Laws}
use Rattle.boards.specs.declared.outcome.Outcome.{Outcome}
use Rattle.boards.specs.declared.station.Station.{Station}
use Rattle.boards.specs.declared.station.Station.TheVariants.{Free, Uncounted, Counted, Ready}
use Rattle.floor_model.specs.Floor.{is_ready, tells_ready, refuse_if, taken_unless, touch_taken, opened}
use Rattle.floor_model.specs.History.{State, Call, to_touch, Event, touched, touch_event, touches, does, after, history, Has, last, past, Undisturbed}
use Rattle.floor_model.specs.Law.{lines, ReadyWithin, Holds, Law}
use Rattle.floor_model.proofs.Lists.{impossible, get_d_zeros}
use Rattle.floor_model.proofs.Histories.{has_none, touches_same}
use Rattle.boards.proofs.Stations.{all_free_each}
use Rattle.floor_model.proofs.Stations.{all_free_none}
use Rattle.floor_model.proofs.Moves.{Move, sends_back, shows, begins, passes, tallies, frees, moves, refused_same, Touches}
use Rattle.floor_model.proofs.Book.{Standing, Book}
use Rattle.floor_model.proofs.Kept.{Kept, kept_on}

module _ {Model Plain Op Answer Item : Type 0} (plain : Machine Plain Op Answer Item) (steps : Steps Model Op Answer)
    (means : Meaning Model Plain Op Answer) (sound : Model → Type 0) where
  opened_book : (m : Model) → Fresh means plain.empty m → Book plain [] [] (means.station m) (means.contents m)
  opened_book m fresh = record {
    number = refl;
    standing = λ p. subst (Standing [] [] p) (sym (fresh.station p)) refl;
    waiting = λ p. ap is_waiting (fresh.station p);
    orderly = λ p u before r. has_none r refl;
    origin = λ n l at. impossible (cc);
    one_line = λ m n k l at. impossible (cc);
    collected_line = λ p u a before until r. has_none r refl;
    collected_start = λ p a until r. has_none r refl;
    replays = ap (λ x. (x, [])) (sym fresh.contents);
    listed = λ k l earlier r. has_none r refl;
  }

  opened_kept : (m : Model) (limit : ℕ) (ledger : List _) → sound m → Fresh means plain.empty m → limit ≤ length ledger →
      Kept plain steps means sound limit (record { floor = opened m limit; ledger = ledger }) []
  opened_kept m limit ledger ok fresh room =
      let none = all_free_none means m (all_free_each means m fresh.station) in
      record {
        sound_board = ok;
        same_limit = refl;
        room = room;
        fill = omega arith;
        turns_room = omega arith;
        turns = get_d_zeros 17;
        book = opened_book m fresh;
      }

  module _ (laws : Laws plain steps means sound) (limit : ℕ) (s : State Model Op Answer) (h : List (Event Op Answer Item))
      (k : Kept plain steps means sound limit s h) where
    abbrev reached : List (Call Op Answer Item limit) → State Model Op Answer
    reached = after plain steps means s

    abbrev events : List (Call Op Answer Item limit) → List (Event Op Answer Item)
    events = history plain steps means s

    kept_after : (calls : List (Call Op Answer Item limit)) → Kept plain steps means sound limit (reached calls) (events calls ++ h)
    kept_after [] = k
    kept_after (c ∷ earlier) =
        let i = kept_after earlier in
        kept_on plain steps means sound laws limit (reached earlier) (events earlier ++ h) i _ _
        (moves plain steps means sound laws (reached earlier) i.sound_board i.same_limit c)

    -- a move leaves the first w lines as they are
    line_stays : (w : ℕ) (t u : State Model Op Answer) (e : Event Op Answer Item) → Move plain steps means sound t u e → w ≤ t.floor.written →
        (w ≤ u.floor.written) × (take w u.ledger ≡ take w t.ledger)
    line_stays w t u e (sends_back c) l = (l, refl)
    line_stays w t u e (shows i j q) l = (l, refl)
    line_stays w t u e (begins m p o c) l = (l, refl)
    line_stays w t u e (passes m p x b c) l = (l, refl)
    line_stays w t u e (tallies m p x o a c) l = (omega arith, take-set-le w t.ledger t.floor.written _ l)
    line_stays w t u e (frees m p o a c) l = (l, refl)

    lines_stay : (calls : List (Call Op Answer Item limit)) →
        (s.floor.written ≤ (reached calls).floor.written) × (take s.floor.written (reached calls).ledger ≡ lines plain steps means s)
    lines_stay [] = (omega arith, refl)
    lines_stay (c ∷ earlier) =
        let i = lines_stay earlier in
        let j = kept_after earlier in
        let x = line_stays s.floor.written (reached earlier) _ _ (moves plain steps means sound laws (reached earlier) j.sound_board j.same_limit c) i.0 in
        (x.0, x.1 ∙ i.1)

    abbrev Taken : ℕ → Event Op Answer Item → Type 0
    Taken p e = (t : Outcome) × (a : Option Answer) × (e ≡ touched p t a)

    waiting_there : (p : ℕ) (b : Bool) → exists means s.floor.board p ≡ b → is_waiting (means.station s.floor.board p) ≡ true → b ≡ true
    waiting_there p true e w = refl
    waiting_there p false e w =
        let f = ap is_waiting (laws.missing_free s.floor.board p k.sound_board e) in impossible (cc)

    waiting_busy : (st : Station Op Answer) → is_waiting st ≡ true → is_free st ≡ false
    waiting_busy Free w = impossible (cc)
    waiting_busy (Uncounted o) w = refl
    waiting_busy (Counted o a) w = refl
    waiting_busy (Ready o a) w = impossible (cc)

    touch_goes : (p : ℕ) (b c d e : Bool) → b ≡ false → c ≡ true → d ≡ false → e ≡ true →
        Taken p (touch_event p (taken_unless (refuse_if b ShortTable (refuse_if (not c) NoSuchStation (refuse_if d StillFree (refuse_if (not e) AlreadyReady None))))
        (s.floor, s.ledger) (touch_taken steps means s.floor p s.ledger, (steps.touch s.floor.board p).1)).1)
    touch_goes p true c d e eb ec ed ee = impossible (cc)
    touch_goes p false false d e eb ec ed ee = impossible (cc)
    touch_goes p false true true e eb ec ed ee = impossible (cc)
    touch_goes p false true false false eb ec ed ee = impossible (cc)
    touch_goes p false true false true eb ec ed ee = ((steps.touch s.floor.board p).1.0, (steps.touch s.floor.board p).1.1, refl)

    touchable : (p : ℕ) → is_waiting (means.station s.floor.board p) ≡ true →
        let call : Call Op Answer Item limit = to_touch p in Taken p (does plain steps means s call).1
    touchable p w =
        let room = k.room in let same = k.same_limit in
        touch_goes p _ _ _ _ (le-ltb (length s.ledger) s.floor.limit (omega arith)) (waiting_there p _ refl w) (waiting_busy _ w) w

    -- each undisturbed call brings a waiting station nearer, or leaves it as far as it was
    module _ (p : ℕ) where
      abbrev Waits : State Model Op Answer → Type 0
      Waits t = is_waiting (means.station t.floor.board p) ≡ true

      abbrev far : State Model Op Answer → ℕ
      far t = means.distance t.floor.board p

      abbrev Told : ℕ → List (Event Op Answer Item) → Model → Event Op Answer Item → Type 0
      Told most hist m e = (x : Outcome) × (a : Option Answer) × (e ≡ touched p x a) × (tells_ready x ≡ true) ×
          (is_ready (means.station m p) ≡ true) × (touches (e ∷ hist) p ≤ most)

      touch_nearer : (most : ℕ) (hist : List (Event Op Answer Item)) (t : State Model Op Answer) (m : Model) (x : Outcome) (b : Option Answer) →
          sound t.floor.board → Touches plain steps means sound t m p x → far t + touches hist p ≤ most →
          Told most hist m (touched p x b) ⊎ ((is_waiting (means.station m p) ≡ true) × (means.distance m p + touches (touched p x b ∷ hist) p ≤ most))
      touch_nearer most hist t m x b ok c d = by (tells_ready x) refl
        where
          one : touches (touched p x b ∷ hist) p ≡ suc (touches hist p)
          one = touches_same hist p x b

          least : 1 ≤ far t
          least = laws.distance_least t.floor.board p ok c.waited

          by : (r : Bool) → tells_ready x ≡ r →
              Told most hist m (touched p x b) ⊎ ((is_waiting (means.station m p) ≡ true) × (means.distance m p + touches (touched p x b ∷ hist) p ≤ most))
          by true e = let i = one in let j = least in inl (x, b, refl, e, c.readied ∙ e, omega arith)
          by false e =
              let still : is_waiting (means.station m p) ≡ true = c.waits_on ∙ ap not e in
              let i = one in let f = c.falls still in
              inr (still, omega arith)

      one_nearer : (most : ℕ) (hist : List (Event Op Answer Item)) (t u : State Model Op Answer) (e : Event Op Answer Item) → sound t.floor.board →
          Move plain steps means sound t u e → Waits t → far t + touches hist p ≤ most →
          ((q : ℕ) (x : Outcome) (a : Option Answer) → e ≡ touched q x a → q ≡ p) →
          Told most hist u.floor.board e ⊎ (Waits u × (far u + touches (e ∷ hist) p ≤ most))
      one_nearer most hist t u e ok (sends_back c) w d only = inr (w, d)
      one_nearer most hist t u e ok (shows i j q) w d only = inr (w, d)
      one_nearer most hist t u e ok (begins m q o c) w d only =
          let ne : p ≢ q = λ x. let f = ap is_waiting (subst (λ y. means.station t.floor.board y ≡ Free) (sym x) c.was) in impossible (cc) in
          let g = c.far p ne in
          inr (ap is_waiting (c.at.keeps.station p ne) ∙ w, omega arith)
      one_nearer most hist t u e ok (passes m q x b c) w d only =
          subst
          (λ y. Touches plain steps means sound t m y x → Told most hist m (touched y x b) ⊎
          ((is_waiting (means.station m p) ≡ true) × (means.distance m p + touches (touched y x b ∷ hist) p ≤ most)))
          (sym (only q x b refl)) (λ k. touch_nearer most hist t m x b ok k d) c.touches
      one_nearer most hist t u e ok (tallies m q x o a c) w d only =
          subst
          (λ y. Touches plain steps means sound t m y x → Told most hist m (touched y x (Some a)) ⊎
          ((is_waiting (means.station m p) ≡ true) × (means.distance m p + touches (touched y x (Some a) ∷ hist) p ≤ most)))
          (sym (only q x (Some a) refl)) (λ k. touch_nearer most hist t m x (Some a) ok k d) c.touches
      one_nearer most hist t u e ok (frees m q o a c) w d only =
          let ne : p ≢ q = λ x. let f = ap is_waiting (subst (λ y. means.station t.floor.board y ≡ Ready o a) (sym x) c.was) in impossible (cc) in
          let g = c.far p ne in
          inr (ap is_waiting (c.at.keeps.station p ne) ∙ w, omega arith)

      soon : Waits s → (calls : List (Call Op Answer Item limit)) → Undisturbed p (events calls) →
          ReadyWithin plain steps means (far s) s p calls ⊎ (Waits (reached calls) × (far (reached calls) + touches (events calls) p ≤ far s))
      soon w [] u = inr (w, omega arith)
      soon w (c ∷ earlier) u =
          let hist = events earlier in
          let t = reached earlier in
          let e = (does plain steps means t c).1 in
          let j = kept_after earlier in
          ⊎_elim
          (λ f. inl (record {
            later = c ∷ f.later;
            until = f.until;
            parts = ap (λ x. c ∷ x) f.parts;
            earlier = f.earlier;
            outcome = f.outcome;
            answer = f.answer;
            touch = f.touch;
            told = f.told;
            ready = f.ready;
            soon = f.soon;
          }))
          (λ i. ⊎_elim
          (λ f. inl (record {
            later = [];
            until = c ∷ earlier;
            parts = refl;
            earlier = hist;
            outcome = f.0;
            answer = f.1;
            touch = ap (λ x. x ∷ hist) f.2;
            told = f.3;
            ready = f.4;
            soon = f.5;
          }))
          inr
          (one_nearer (far s) hist t _ e j.sound_board (moves plain steps means sound laws t j.sound_board j.same_limit c) i.0 i.1
          (λ q x a f. u q x a hist (subst (λ y. Has (e ∷ hist) hist y) f last))))
          (soon w earlier (λ q x a b r. u q x a b (past r)))

      soon_ready : Waits s → (calls : List (Call Op Answer Item limit)) → Undisturbed p (events calls) →
          ReadyWithin plain steps means (means.bound s.floor.board) s p calls ⊎ (Waits (reached calls) × (touches (events calls) p < means.bound s.floor.board))
      soon_ready w calls u =
          let most = laws.distance_most s.floor.board p k.sound_board w in
          let j = kept_after calls in
          ⊎_elim
          (λ f. let z = f.soon in inl (record {
            later = f.later;
            until = f.until;
            parts = f.parts;
            earlier = f.earlier;
            outcome = f.outcome;
            answer = f.answer;
            touch = f.touch;
            told = f.told;
            ready = f.ready;
            soon = omega arith;
          }))
          (λ i. let least = laws.distance_least (reached calls).floor.board p j.sound_board i.0 in let z = i.1 in inr (i.0, omega arith))
          (soon w calls u)

    holds : Holds plain steps means limit s h
    holds =
        let fill = k.fill in let room = k.room in
        let all : length (lines plain steps means s) ≡ s.floor.written = length-take-le s.floor.written s.ledger (omega arith) in
        record {
          sent_back = λ c reason e. refused_same plain steps means sound s _ _ reason (moves plain steps means sound laws s k.sound_board k.same_limit c) e;
          turns = k.turns;
          as_many = (sym (k.book.number ∙ all), omega arith);
          lines_stay = lines_stay;
          no_other_line = k.book.origin;
          one_line = k.book.one_line;
          collected_line = λ p u a before until c. k.book.collected_line p u a before until c.collect c.start c.next;
          collected_start = λ p a until r. let x = k.book.collected_start p a until r in (x.0, x.1, record { collect = r; start = x.2; next = x.3 });
          replays = k.book.replays;
          shows = k.book.listed;
          waiting = k.book.waiting;
          touchable = λ p w. touchable p (k.book.waiting p ∙ w);
          soon_ready = λ p w. soon_ready p (k.book.waiting p ∙ w);
        }

  pub lawful : Laws plain steps means sound → (m : Model) (limit : ℕ) (ledger : List _) → sound m → Fresh means plain.empty m → limit ≤ length ledger →
      Law plain steps means (record { floor = opened m limit; ledger = ledger })
  lawful laws m limit ledger ok fresh room calls =
      let s : State Model Op Answer = record { floor = opened m limit; ledger = ledger } in
      let t = after plain steps means s calls in
      let h = history plain steps means s calls in
      holds laws limit t h
      (subst (Kept plain steps means sound limit t) (append-nil h) (kept_after laws limit s [] (opened_kept m limit ledger ok fresh room) calls))
