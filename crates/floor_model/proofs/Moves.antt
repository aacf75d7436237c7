-- What a call does, by the board's laws alone: it leaves all as it is, or it is one of four moves.
use Rattle.std.proofs.Common.{◌≡◌, ℕ, suc, ◌+◌, ◌<◌, Bool, true, false, cond, not, eqb, ◌≢◌, ◌⊎◌, List, length, set, Some, None, Err, Option, sym, refl, ap, ◌∙◌, subst, inl, inr}
use Rattle.std.proofs.lemmas.Bool.{and_from, eq-eqb, lt-ltb}
use Rattle.keys.specs.declared.refusal.Refusal.{Refusal}
use Rattle.keys.specs.declared.refusal.Refusal.TheVariants.{ShortTable, NoSuchStation, NotFree, StillFree, AlreadyReady, StillWaiting, LedgerFull, NoSpace, ShortList}
use Rattle.plain_model.specs.Machine.{Machine}
use Rattle.boards.specs.Board.{Steps, Meaning, is_free, is_waiting, exists, uncounted, over}
use Rattle.boards.specs.Laws.{Laws, KeepsOthers, Touched, goes_uncounted, goes_counted, counts, counts_ready, readies}
use Rattle.boards.specs.declared.outcome.Outcome.{Outcome}
use Rattle.boards.specs.declared.outcome.Outcome.TheVariants as told
use Rattle.boards.specs.declared.station.Station.{Station}
use Rattle.boards.specs.declared.station.Station.TheVariants.{Free, Uncounted, Counted, Ready}
use Rattle.floor_model.specs.declared.line.Line.{Line}
use Rattle.floor_model.specs.Floor.{turn, with_board, line, is_ready, tells_counted, tells_ready, refuse_if, taken_unless, entry, enter, start_taken, touch_taken, collect_at, listing}
use Rattle.floor_model.specs.History.{State, Call, to_start, to_touch, to_touch_beside, to_collect, to_show, Event, started, touched, collected, shown, refused, start_event, touch_event, collect_event, show_event, does}
use Rattle.floor_model.proofs.Lists.{impossible}
use Rattle.boards.proofs.Stations.{free_is}

module _ {Model Plain Op Answer Item : Type 0} (plain : Machine Plain Op Answer Item) (steps : Steps Model Op Answer)
    (means : Meaning Model Plain Op Answer) (sound : Model → Type 0) where
  abbrev pub over_board : State Model Op Answer → Model → State Model Op Answer
  over_board s m = record { floor = with_board s.floor m; ledger = s.ledger }

  -- The board has changed at station p alone.
  pub record At (s : State Model Op Answer) (m : Model) (p : ℕ) : Type 0 where
    pub there : exists means s.floor.board p ≡ true
    pub stays_sound : sound m
    pub keeps : KeepsOthers means s.floor.board m p

  pub record Begins (s : State Model Op Answer) (m : Model) (p : ℕ) (o : Op) : Type 0 where
    pub at : At s m p
    pub was : means.station s.floor.board p ≡ Free
    pub is : means.station m p ≡ Uncounted o
    pub room : s.floor.written + uncounted means s.floor.board ≢ s.floor.limit
    pub same : means.contents m ≡ means.contents s.floor.board
    pub far : (q : ℕ) → q ≢ p → means.distance m q ≡ means.distance s.floor.board q

  -- what every taken touch is
  pub record Touches (s : State Model Op Answer) (m : Model) (p : ℕ) (t : Outcome) : Type 0 where
    pub at : At s m p
    pub waited : is_waiting (means.station s.floor.board p) ≡ true
    pub waits_on : is_waiting (means.station m p) ≡ not (tells_ready t)
    pub readied : is_ready (means.station m p) ≡ tells_ready t
    pub falls : is_waiting (means.station m p) ≡ true → means.distance m p < means.distance s.floor.board p

  -- a touch that counts nothing
  pub record Passes (s : State Model Op Answer) (m : Model) (p : ℕ) (t : Outcome) : Type 0 where
    pub touches : Touches s m p t
    pub same : means.contents m ≡ means.contents s.floor.board
    pub step : (means.station m p ≡ means.station s.floor.board p) ⊎
        ((o : Op) × (a : Answer) × (means.station s.floor.board p ≡ Counted o a) × (means.station m p ≡ Ready o a))
    pub silent : tells_counted t ≡ false

  -- a touch that counts
  pub record Tallies (s : State Model Op Answer) (m : Model) (p : ℕ) (t : Outcome) (o : Op) (a : Answer) : Type 0 where
    pub touches : Touches s m p t
    pub was : means.station s.floor.board p ≡ Uncounted o
    pub is : (means.station m p ≡ Counted o a) ⊎ (means.station m p ≡ Ready o a)
    pub applies : plain.apply o (means.contents s.floor.board) ≡ (means.contents m, a)
    pub telling : tells_counted t ≡ true

  pub record Frees (s : State Model Op Answer) (m : Model) (p : ℕ) (o : Op) (a : Answer) : Type 0 where
    pub at : At s m p
    pub was : means.station s.floor.board p ≡ Ready o a
    pub is : means.station m p ≡ Free
    pub same : means.contents m ≡ means.contents s.floor.board
    pub far : (q : ℕ) → q ≢ p → means.distance m q ≡ means.distance s.floor.board q

  -- A call leads from one state to another, with an event.
  pub data Move (s : State Model Op Answer) : State Model Op Answer → Event Op Answer Item → Type 0 where
    sends_back : (c : Refusal) → Move s s (refused c)
    shows : (handed left : List Item) → left ≡ over (listing plain means s.floor) handed → Move s s (shown handed left)
    begins : (m : Model) (p : ℕ) (o : Op) → Begins s m p o →
        Move s (record { floor = record { board = m; limit = s.floor.limit; written = s.floor.written; turns = set s.floor.turns p (suc (turn s.floor p)) }; ledger = s.ledger }) (started p o)
    passes : (m : Model) (p : ℕ) (t : Outcome) (b : Option Answer) → Passes s m p t → Move s (over_board s m) (touched p t b)
    tallies : (m : Model) (p : ℕ) (t : Outcome) (o : Op) (a : Answer) → Tallies s m p t o a →
        Move s (record { floor = record { board = m; limit = s.floor.limit; written = suc s.floor.written; turns = s.floor.turns }; ledger = set s.ledger s.floor.written (line p (turn s.floor p) o a) }) (touched p t (Some a))
    frees : (m : Model) (p : ℕ) (o : Op) (a : Answer) → Frees s m p o a → Move s (over_board s m) (collected p a)

  pub refused_same : (s t : State Model Op Answer) (e : Event Op Answer Item) (c : Refusal) → Move s t e → e ≡ refused c → t ≡ s
  refused_same s t e c (sends_back k) x = refl
  refused_same s t e c (shows k l q) x = refl
  refused_same s t e c (begins m p o k) x = impossible (cc)
  refused_same s t e c (passes m p w b k) x = impossible (cc)
  refused_same s t e c (tallies m p w o a k) x = impossible (cc)
  refused_same s t e c (frees m p o a k) x = impossible (cc)

  not_eqb : (m n : ℕ) → eqb m n ≡ false → m ≢ n
  not_eqb m n e q = let t = eq-eqb m n q in impossible (cc)

  module _ (laws : Laws plain steps means sound) (s : State Model Op Answer) (ok : sound s.floor.board) where
    start_moves : (p : ℕ) (o : Op) (b c d e : Bool) → exists means s.floor.board p ≡ b → is_free (means.station s.floor.board p) ≡ c →
        eqb (s.floor.written + uncounted means s.floor.board) s.floor.limit ≡ d → means.space s.floor.board o ≡ e →
        let r = taken_unless {T = Unit {0}} (refuse_if (not b) NoSuchStation (refuse_if (not c) NotFree (refuse_if d LedgerFull (refuse_if (not e) NoSpace None))))
        s.floor (start_taken steps means s.floor p o, tt) in
        Move s (record { floor = r.0; ledger = s.ledger }) (start_event p o r.1)
    start_moves p o false c d e eb ec ed ee = sends_back NoSuchStation
    start_moves p o true false d e eb ec ed ee = sends_back NotFree
    start_moves p o true true true e eb ec ed ee = sends_back LedgerFull
    start_moves p o true true false false eb ec ed ee = sends_back NoSpace
    start_moves p o true true false true eb ec ed ee =
        let m = s.floor.board in
        let is-taken = laws.begin_taken m p o ok ∙ and_from _ _ eb (and_from _ _ ec ee) in
        begins (steps.begin m p o).0 p o (record {
          at = record { there = eb; stays_sound = laws.begin_sound m p o ok; keeps = laws.begin_others m p o ok };
          was = free_is _ ec;
          is = laws.begin_waits m p o ok is-taken;
          room = not_eqb _ _ ed;
          same = laws.begin_contents m p o ok;
          far = laws.begin_distances m p o ok;
        })

    -- the parts of a touch that do not depend on what it tells
    touches_at : (p : ℕ) (t : Outcome) → exists means s.floor.board p ≡ true → is_waiting (means.station s.floor.board p) ≡ true →
        is_waiting (means.station (steps.touch s.floor.board p).0 p) ≡ not (tells_ready t) →
        is_ready (means.station (steps.touch s.floor.board p).0 p) ≡ tells_ready t → Touches s (steps.touch s.floor.board p).0 p t
    touches_at p t there waited on readied =
        let m = s.floor.board in
        record {
          at = record { there = there; stays_sound = laws.touch_sound m p ok; keeps = laws.touch_others m p ok };
          waited = waited;
          waits_on = on;
          readied = readied;
          falls = laws.distance_falls m p ok waited;
        }

    touch_does : (p : ℕ) (st su : Station Op Answer) (t : Outcome) (a : Option Answer) →
        Touched plain (means.contents s.floor.board) (means.contents (steps.touch s.floor.board p).0) st su t a →
        means.station s.floor.board p ≡ st → means.station (steps.touch s.floor.board p).0 p ≡ su →
        exists means s.floor.board p ≡ true →
        let r = enter (with_board s.floor (steps.touch s.floor.board p).0) p s.ledger (entry st t a) in
        Move s (record { floor = r.0; ledger = r.1 }) (touched p t a)
    touch_does p st su t a (goes_uncounted k) es eu there =
        passes (steps.touch s.floor.board p).0 p told.Going None (record {
          touches = touches_at p told.Going there (ap is_waiting es) (ap is_waiting eu) (ap is_ready eu);
          same = k;
          step = inl (eu ∙ sym es);
          silent = refl;
        })
    touch_does p st su t a (goes_counted k) es eu there =
        passes (steps.touch s.floor.board p).0 p told.Going None (record {
          touches = touches_at p told.Going there (ap is_waiting es) (ap is_waiting eu) (ap is_ready eu);
          same = k;
          step = inl (eu ∙ sym es);
          silent = refl;
        })
    touch_does p st su t a (counts {o = o} {a = b} k) es eu there =
        tallies (steps.touch s.floor.board p).0 p told.Counted o b (record {
          touches = touches_at p told.Counted there (ap is_waiting es) (ap is_waiting eu) (ap is_ready eu);
          was = es;
          is = inl eu;
          applies = k;
          telling = refl;
        })
    touch_does p st su t a (counts_ready {o = o} {a = b} k) es eu there =
        tallies (steps.touch s.floor.board p).0 p told.CountedReady o b (record {
          touches = touches_at p told.CountedReady there (ap is_waiting es) (ap is_waiting eu) (ap is_ready eu);
          was = es;
          is = inr eu;
          applies = k;
          telling = refl;
        })
    touch_does p st su t a (readies {o = o} {a = b} k) es eu there =
        passes (steps.touch s.floor.board p).0 p told.Ready (Some b) (record {
          touches = touches_at p told.Ready there (ap is_waiting es) (ap is_waiting eu) (ap is_ready eu);
          same = k;
          step = inr (o, b, es, eu);
          silent = refl;
        })

    touch_moves : (p : ℕ) (b c d e : Bool) → exists means s.floor.board p ≡ c → is_waiting (means.station s.floor.board p) ≡ e →
        let r = taken_unless (refuse_if b ShortTable (refuse_if (not c) NoSuchStation (refuse_if d StillFree (refuse_if (not e) AlreadyReady None))))
        (s.floor, s.ledger) (touch_taken steps means s.floor p s.ledger, (steps.touch s.floor.board p).1) in
        Move s (record { floor = r.0.0; ledger = r.0.1 }) (touch_event p r.1)
    touch_moves p true c d e ec ee = sends_back ShortTable
    touch_moves p false false d e ec ee = sends_back NoSuchStation
    touch_moves p false true true e ec ee = sends_back StillFree
    touch_moves p false true false false ec ee = sends_back AlreadyReady
    touch_moves p false true false true ec ee =
        touch_does p _ _ _ _ (laws.touch_does s.floor.board p ok ee) refl refl ec

    beside_moves : (p : ℕ) (other : List (Line Op Answer)) (b : Bool) (rest : Option Refusal) → b ≡ true →
        let r = taken_unless (refuse_if b ShortTable rest) (s.floor, other) (touch_taken steps means s.floor p other, (steps.touch s.floor.board p).1) in
        Move s (record { floor = r.0.0; ledger = s.ledger }) (touch_event p r.1)
    beside_moves p other true rest e = sends_back ShortTable
    beside_moves p other false rest e = impossible (cc)

    collect_moves : (p : ℕ) (b : Bool) (st : Station Op Answer) → exists means s.floor.board p ≡ b → means.station s.floor.board p ≡ st →
        let r = cond b (collect_at steps means s.floor p st) (s.floor, Err NoSuchStation) in
        Move s (record { floor = r.0; ledger = s.ledger }) (collect_event p r.1)
    collect_moves p false st eb es = sends_back NoSuchStation
    collect_moves p true Free eb es = sends_back StillFree
    collect_moves p true (Uncounted o) eb es = sends_back StillWaiting
    collect_moves p true (Counted o a) eb es = sends_back StillWaiting
    collect_moves p true (Ready o a) eb es =
        let m = s.floor.board in
        frees (steps.release m p) p o a (record {
          at = record { there = eb; stays_sound = laws.release_sound m p ok; keeps = laws.release_others m p ok };
          was = es;
          is = laws.release_frees m p o a ok es;
          same = laws.release_contents m p ok;
          far = laws.release_distances m p ok;
        })

    show_moves : (list : List Item) (b : Bool) →
        let r = taken_unless {T = Unit {0}} (refuse_if (not b) ShortList None) list (over (listing plain means s.floor) list, tt) in
        Move s s (show_event list r.0 r.1)
    show_moves list true = shows list _ refl
    show_moves list false = sends_back ShortList

    pub moves : {limit : ℕ} → s.floor.limit ≡ limit → (c : Call Op Answer Item limit) → Move s (does plain steps means s c).0 (does plain steps means s c).1
    moves el (to_start p o) = start_moves p o _ _ _ _ refl refl refl refl
    moves el (to_touch p) = touch_moves p _ _ _ _ refl refl
    moves el (to_touch_beside p other short) = beside_moves p other _ _ (lt-ltb _ _ (subst (λ x. length other < x) (sym el) short))
    moves el (to_collect p) = collect_moves p _ _ refl refl
    moves el (to_show list) = show_moves list _
