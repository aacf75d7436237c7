-- What ties a history, the written lines, the stations and the contents together, and that each kind of event keeps it.
use Rattle.std.proofs.Common.{◌≡◌, ℕ, suc, ◌<◌, ◌≤◌, Bool, true, false, cond, not, eqb, ◌≢◌, ◌⊎◌, List, [], ◌∷◌, ◌++◌, map, length, take, Some, Option, sym, refl, ap, ◌∙◌, subst, ⊎_elim, add-one, arith}
use lib.Seq.{take-length, take-append-le}
use Rattle.std.proofs.lemmas.List.{length_push}
use Rattle.std.proofs.lemmas.Bool.{cases_eq, cond-true, cond-false, eq-eqb, ne_eqb}
use Rattle.std.specs.List.{slice_get}
use Rattle.keys.specs.declared.refusal.Refusal.{Refusal}
use Rattle.plain_model.specs.Machine.{Machine}
use Rattle.boards.specs.Board.{is_waiting, over}
use Rattle.boards.specs.declared.outcome.Outcome.{Outcome}
use Rattle.boards.specs.declared.station.Station.{Station}
use Rattle.boards.specs.declared.station.Station.TheVariants.{Free, Uncounted, Counted, Ready}
use Rattle.floor_model.specs.declared.line.Line.{Line}
use Rattle.floor_model.specs.Floor.{line, tells_counted, tells_ready}
use Rattle.floor_model.specs.History.{Event, started, touched, collected, shown, refused, Has, last, past, starts, collects, counts, waits, Written, HasLine}
use Rattle.floor_model.specs.Law.{replayed}
use Rattle.floor_model.proofs.Lists.{impossible, nth_keep, nth_new, nth_cases, replay_line}
use Rattle.floor_model.proofs.Histories.{has_cases, has_in, starts_same, starts_other, collects_same, collects_other, starts_below, starts_one, counts_before, written_later}

module _ {Op Answer Item : Type 0} where
  -- The start of o, after `before`, is station p's last, and is not collected.
  pub record Current (h before : List (Event Op Answer Item)) (p : ℕ) (o : Op) : Type 0 where
    pub start : Has h before (started p o)
    pub turn : starts h p ≡ suc (starts before p)
    pub none_since : collects h p ≡ collects before p
    pub ahead : starts h p ≡ suc (collects h p)

  -- Station p's current operation o has no line yet.
  pub record Unwritten (h : List (Event Op Answer Item)) (ls : List (Line Op Answer)) (p : ℕ) (o : Op) : Type 0 where
    pub before : List (Event Op Answer Item)
    pub current : Current h before p o
    pub no_line : (n : ℕ) (l : Line Op Answer) → slice_get ls n ≡ Some l → l.station ≡ p → l.turn < starts h p

  -- Station p's current operation o has its line, with the answer a.
  pub record Answered (h : List (Event Op Answer Item)) (ls : List (Line Op Answer)) (p : ℕ) (o : Op) (a : Answer) : Type 0 where
    pub before : List (Event Op Answer Item)
    pub current : Current h before p o
    pub has_line : HasLine ls p o a before h

  -- what a station's state says of the history and the lines
  abbrev pub Standing : List (Event Op Answer Item) → List (Line Op Answer) → ℕ → Station Op Answer → Type 0
  Standing h ls p Free = starts h p ≡ collects h p
  Standing h ls p (Uncounted o) = Unwritten h ls p o
  Standing h ls p (Counted o a) = Answered h ls p o a
  Standing h ls p (Ready o a) = Answered h ls p o a

  -- an event that is no start or collect of p leaves it standing
  module _ (e : Event Op Answer Item) (h : List (Event Op Answer Item)) (ls : List (Line Op Answer)) (p : ℕ)
      (es : starts (e ∷ h) p ≡ starts h p) (ec : collects (e ∷ h) p ≡ collects h p) where
    current_later : {before : List (Event Op Answer Item)} {o : Op} → Current h before p o → Current (e ∷ h) before p o
    current_later c = record { start = past c.start; turn = es ∙ c.turn; none_since = ec ∙ c.none_since; ahead = es ∙ c.ahead ∙ ap suc (sym ec) }

    answered_same : {o : Op} {a : Answer} → Answered h ls p o a → Answered (e ∷ h) ls p o a
    answered_same c = record {
      before = c.before;
      current = current_later c.current;
      has_line = record { place = c.has_line.place; stands = c.has_line.stands; written = written_later e c.has_line.written };
    }

    answered_more : (more : List (Line Op Answer)) {o : Op} {a : Answer} → Answered h ls p o a → Answered (e ∷ h) (ls ++ more) p o a
    answered_more more c = record {
      before = c.before;
      current = current_later c.current;
      has_line = record {
        place = c.has_line.place;
        stands = nth_keep ls more c.has_line.place _ c.has_line.stands;
        written = written_later e c.has_line.written;
      };
    }

    -- with one more line, of another station
    pub standing_more : (l : Line Op Answer) → l.station ≢ p → (st : Station Op Answer) → Standing h ls p st → Standing (e ∷ h) (ls ++ l ∷ []) p st
    standing_more l other Free k = es ∙ k ∙ sym ec
    standing_more l other (Uncounted o) k = record {
      before = k.before;
      current = current_later k.current;
      no_line = λ n j at of. rw es (⊎_elim (λ was. k.no_line n j was of) (λ new. absurd (other (ap (λ x. x.station) new.1 ∙ of))) (nth_cases ls l n j at));
    }
    standing_more l other (Counted o a) k = answered_more (l ∷ []) k
    standing_more l other (Ready o a) k = answered_more (l ∷ []) k

    pub standing_same : (st : Station Op Answer) → Standing h ls p st → Standing (e ∷ h) ls p st
    standing_same Free k = es ∙ k ∙ sym ec
    standing_same (Uncounted o) k = record { before = k.before; current = current_later k.current; no_line = λ n j at of. rw es (k.no_line n j at of) }
    standing_same (Counted o a) k = answered_same k
    standing_same (Ready o a) k = answered_same k

module _ {Plain Op Answer Item : Type 0} (plain : Machine Plain Op Answer Item) where
  -- what a list shows of the lines written up to n
  abbrev pub Listed : List (Line Op Answer) → ℕ → List Item → List Item → Type 0
  Listed ls n handed left = left ≡ over (plain.listed (replayed plain (take n ls)).0) handed

  pub record Book (h : List (Event Op Answer Item)) (ls : List (Line Op Answer)) (st : ℕ → Station Op Answer) (now : Plain) : Type 0 where
    pub number : counts h ≡ length ls
    pub standing : (p : ℕ) → Standing h ls p (st p)
    pub waiting : (p : ℕ) → is_waiting (st p) ≡ waits h p
    pub orderly : (p : ℕ) (o : Op) (before : List (Event Op Answer Item)) → Has h before (started p o) → starts before p ≡ collects before p
    pub origin : (n : ℕ) (l : Line Op Answer) → slice_get ls n ≡ Some l → (before : List (Event Op Answer Item)) × Written h before n l
    pub one_line : (m n : ℕ) (k l : Line Op Answer) → slice_get ls m ≡ Some k → slice_get ls n ≡ Some l → k.station ≡ l.station → k.turn ≡ l.turn → m ≡ n
    pub collected_line : (p : ℕ) (o : Op) (a : Answer) (before until : List (Event Op Answer Item)) →
        Has h until (collected p a) → Has until before (started p o) → collects until p ≡ collects before p → HasLine ls p o a before until
    pub collected_start : (p : ℕ) (a : Answer) (until : List (Event Op Answer Item)) → Has h until (collected p a) →
        (before : List (Event Op Answer Item)) × (o : Op) × Has until before (started p o) × (collects until p ≡ collects before p)
    pub replays : replayed plain ls ≡ (now, map (λ l. l.answer) ls)
    pub listed : (handed left : List Item) (earlier : List (Event Op Answer Item)) → Has h earlier (shown handed left) → Listed ls (counts earlier) handed left

  module _ (h : List (Event Op Answer Item)) (ls : List (Line Op Answer)) (st : ℕ → Station Op Answer) (now : Plain) (b : Book h ls st now) where
    orderly_later : (e : Event Op Answer Item) → ((p : ℕ) (o : Op) → e ≡ started p o → starts h p ≡ collects h p) →
        (p : ℕ) (o : Op) (before : List (Event Op Answer Item)) → Has (e ∷ h) before (started p o) → starts before p ≡ collects before p
    orderly_later e new p o before r =
        ⊎_elim (λ q. subst (λ x. starts x p ≡ collects x p) q.0 (new p o q.1)) (b.orderly p o before) (has_cases r)

    origin_later : (e : Event Op Answer Item) (n : ℕ) (l : Line Op Answer) → slice_get ls n ≡ Some l → (before : List (Event Op Answer Item)) × Written (e ∷ h) before n l
    origin_later e n l at = let o = b.origin n l at in (o.0, written_later e o.1)

    abbrev NoCollect : Event Op Answer Item → Type 0
    NoCollect e = (p : ℕ) (a : Answer) → e ≡ collected p a → ⊥

    abbrev NoShow : Event Op Answer Item → Type 0
    NoShow e = (handed left : List Item) → e ≡ shown handed left → ⊥

    collected_later : (e : Event Op Answer Item) (more : List (Line Op Answer)) → NoCollect e →
        (p : ℕ) (o : Op) (a : Answer) (before until : List (Event Op Answer Item)) →
        Has (e ∷ h) until (collected p a) → Has until before (started p o) → collects until p ≡ collects before p → HasLine (ls ++ more) p o a before until
    collected_later e more none p o a before until r k f =
        ⊎_elim (λ q. absurd (none p a q.1))
        (λ q. let x = b.collected_line p o a before until q k f in
        record { place = x.place; stands = nth_keep ls more x.place _ x.stands; written = x.written }) (has_cases r)

    collected_same : (e : Event Op Answer Item) → NoCollect e → (p : ℕ) (o : Op) (a : Answer) (before until : List (Event Op Answer Item)) →
        Has (e ∷ h) until (collected p a) → Has until before (started p o) → collects until p ≡ collects before p → HasLine ls p o a before until
    collected_same e none p o a before until r k f =
        ⊎_elim (λ q. absurd (none p a q.1)) (λ q. b.collected_line p o a before until q k f) (has_cases r)

    start_later : (e : Event Op Answer Item) → NoCollect e → (p : ℕ) (a : Answer) (until : List (Event Op Answer Item)) →
        Has (e ∷ h) until (collected p a) → (before : List (Event Op Answer Item)) × (o : Op) × Has until before (started p o) × (collects until p ≡ collects before p)
    start_later e none p a until r = ⊎_elim (λ q. absurd (none p a q.1)) (b.collected_start p a until) (has_cases r)

    listed_same : (e : Event Op Answer Item) → NoShow e → (handed left : List Item) (earlier : List (Event Op Answer Item)) →
        Has (e ∷ h) earlier (shown handed left) → Listed ls (counts earlier) handed left
    listed_same e none k l earlier r = ⊎_elim (λ q. absurd (none k l q.1)) (b.listed k l earlier) (has_cases r)

    listed_more : (e : Event Op Answer Item) (more : List (Line Op Answer)) → NoShow e → (handed left : List Item) (earlier : List (Event Op Answer Item)) →
        Has (e ∷ h) earlier (shown handed left) → Listed (ls ++ more) (counts earlier) handed left
    listed_more e more none k l earlier r =
        ⊎_elim (λ q. absurd (none k l q.1))
        (λ q. let within = counts_before q in let all = b.number in
        let front : take (counts earlier) (ls ++ more) ≡ take (counts earlier) ls = take-append-le (counts earlier) ls more (omega arith) in
        subst (λ x. l ≡ over (plain.listed (replayed plain x).0) k) (sym front) (b.listed k l earlier q)) (has_cases r)

    pub refused_book : (c : Refusal) → Book (refused c ∷ h) ls st now
    refused_book c = record {
      number = b.number;
      standing = λ p. standing_same (refused c) h ls p refl refl (st p) (b.standing p);
      waiting = b.waiting;
      orderly = orderly_later (refused c) (λ p o q. impossible (cc));
      origin = origin_later (refused c);
      one_line = b.one_line;
      collected_line = collected_same (refused c) (λ p a q. impossible (cc));
      collected_start = start_later (refused c) (λ p a q. impossible (cc));
      replays = b.replays;
      listed = listed_same (refused c) (λ k l q. impossible (cc));
    }

    listed_now : (handed left : List Item) → left ≡ over (plain.listed now) handed → Listed ls (counts h) handed left
    listed_now k l e =
        let all : take (counts h) ls ≡ ls = ap (λ n. take n ls) b.number ∙ take-length ls in
        let ends : (replayed plain (take (counts h) ls)).0 ≡ now = ap (λ x. (replayed plain x).0) all ∙ ap (λ x. x.0) b.replays in
        e ∙ ap (λ x. over (plain.listed x) k) (sym ends)

    pub shown_book : (handed left : List Item) → left ≡ over (plain.listed now) handed → Book (shown handed left ∷ h) ls st now
    shown_book k l e = record {
      number = b.number;
      standing = λ p. standing_same (shown k l) h ls p refl refl (st p) (b.standing p);
      waiting = b.waiting;
      orderly = orderly_later (shown k l) (λ p o q. impossible (cc));
      origin = origin_later (shown k l);
      one_line = b.one_line;
      collected_line = collected_same (shown k l) (λ p a q. impossible (cc));
      collected_start = start_later (shown k l) (λ p a q. impossible (cc));
      replays = b.replays;
      listed = λ i j earlier r.
          ⊎_elim
          (λ q. let ek : k ≡ i = cc in let el : l ≡ j = cc in
          subst (λ g. Listed ls (counts g) i j) q.0 (subst (λ x. Listed ls (counts h) x j) ek (subst (λ x. Listed ls (counts h) k x) el (listed_now k l e))))
          (b.listed i j earlier) (has_cases r);
    }

    -- each line's turn is one of its station's starts
    turn_within : (n : ℕ) (l : Line Op Answer) → slice_get ls n ≡ Some l → l.turn ≤ starts h l.station
    turn_within n l at =
        let o = b.origin n l at in
        let k = starts_below (has_in o.1.touch o.1.start) in
        let t = o.1.turn in
        omega arith

    module _ (su : ℕ → Station Op Answer) (p : ℕ) (keeps : (q : ℕ) → q ≢ p → su q ≡ st q) where
      -- the other stations stand as they did, and p by its own reason
      by_station : (g : List (Event Op Answer Item)) (ks : List (Line Op Answer)) → ((q : ℕ) → q ≢ p → Standing g ks q (st q)) → Standing g ks p (su p) →
          (q : ℕ) → Standing g ks q (su q)
      by_station g ks other here q =
          ⊎_elim (λ d. subst (λ x. Standing g ks x (su x)) (sym d) here) (λ d. subst (λ x. Standing g ks q x) (sym (keeps q d)) (other q d)) (cases_eq q p)

      -- what a start or a touch of p makes of who waits
      waiting_at : (x : Bool) → is_waiting (su p) ≡ x → (q : ℕ) → is_waiting (su q) ≡ cond (eqb p q) x (waits h q)
      waiting_at x is q =
          ⊎_elim
          (λ d. subst (λ y. is_waiting (su y) ≡ cond (eqb p y) x (waits h y)) (sym d) (is ∙ sym (cond-true (eqb p p) _ _ (eq-eqb p p refl))))
          (λ d. ap is_waiting (keeps q d) ∙ b.waiting q ∙ sym (cond-false (eqb p q) _ _ (ne_eqb p q (λ e. d (sym e)))))
          (cases_eq q p)

      pub started_book : (o : Op) → st p ≡ Free → su p ≡ Uncounted o → Book (started p o ∷ h) ls su now
      started_book o was is =
          let free : starts h p ≡ collects h p = subst (Standing h ls p) was (b.standing p) in
          record {
            number = b.number;
            standing = by_station (started p o ∷ h) ls
                (λ q d. standing_same (started p o) h ls q (starts_other h p q o d) refl (st q) (b.standing q))
                (subst (Standing (started p o ∷ h) ls p) (sym is) (record {
                  before = h;
                  current = record { start = last; turn = starts_same h p o; none_since = refl; ahead = starts_same h p o ∙ ap suc free };
                  no_line = λ n l at of. let k : l.turn ≤ starts h p = subst (λ x. l.turn ≤ starts h x) of (turn_within n l at) in let z = starts_same h p o in omega arith;
                }));
            waiting = waiting_at true (ap is_waiting is);
            orderly = orderly_later (started p o) (λ q u e. let d : p ≡ q = cc in subst (λ x. starts h x ≡ collects h x) d free);
            origin = origin_later (started p o);
            one_line = b.one_line;
            collected_line = collected_same (started p o) (λ q a e. impossible (cc));
            collected_start = start_later (started p o) (λ q a e. impossible (cc));
            replays = b.replays;
            listed = listed_same (started p o) (λ k l e. impossible (cc));
          }

      -- a touch that counts nothing
      pub passed_book : (t : Outcome) (a : Option Answer) → tells_counted t ≡ false → is_waiting (su p) ≡ not (tells_ready t) →
          (su p ≡ st p) ⊎ ((o : Op) × (a : Answer) × (st p ≡ Counted o a) × (su p ≡ Ready o a)) → Book (touched p t a ∷ h) ls su now
      passed_book t a none on step = record {
        number = cond-false (tells_counted t) _ _ none ∙ b.number;
        standing = by_station (touched p t a ∷ h) ls
            (λ q d. standing_same (touched p t a) h ls q refl refl (st q) (b.standing q))
            (standing_same (touched p t a) h ls p refl refl (su p)
            (⊎_elim (λ e. subst (Standing h ls p) (sym e) (b.standing p))
            (λ r. subst (Standing h ls p) (sym r.3) (subst (Standing h ls p) r.2 (b.standing p))) step));
        waiting = waiting_at (not (tells_ready t)) on;
        orderly = orderly_later (touched p t a) (λ q o e. impossible (cc));
        origin = origin_later (touched p t a);
        one_line = b.one_line;
        collected_line = collected_same (touched p t a) (λ q c e. impossible (cc));
        collected_start = start_later (touched p t a) (λ q c e. impossible (cc));
        replays = b.replays;
        listed = listed_same (touched p t a) (λ k l e. impossible (cc));
      }

      -- a touch that counts
      pub tallied_book : (t : Outcome) (o : Op) (a : Answer) (then : Plain) → tells_counted t ≡ true → is_waiting (su p) ≡ not (tells_ready t) →
          st p ≡ Uncounted o → (su p ≡ Counted o a) ⊎ (su p ≡ Ready o a) → plain.apply o now ≡ (then, a) →
          Book (touched p t (Some a) ∷ h) (ls ++ line p (starts h p) o a ∷ []) su then
      tallied_book t o a then tells on was is applied =
          let e : Event Op Answer Item = touched p t (Some a) in
          let l = line p (starts h p) o a in
          let u : Unwritten h ls p o = subst (Standing h ls p) was (b.standing p) in
          let w : Written (e ∷ h) u.before (length ls) l =
          record { until = h; outcome = t; counted = tells; touch = last; place = b.number; start = u.current.start; turn = u.current.turn } in
          let r : Answered (e ∷ h) (ls ++ l ∷ []) p o a = record {
            before = u.before;
            current = record { start = past u.current.start; turn = u.current.turn; none_since = u.current.none_since; ahead = u.current.ahead };
            has_line = record {
              place = length ls;
              stands = nth_new ls l ∙ ap (λ x. Some (line p x o a)) u.current.turn;
              written = record { until = h; outcome = t; counted = tells; touch = last; place = b.number; start = u.current.start; turn = refl };
            };
          } in
          let mixed : (n : ℕ) (k j : Line Op Answer) → slice_get ls n ≡ Some k → l ≡ j → k.station ≡ j.station → k.turn ≡ j.turn → ⊥ =
          λ n k j at is-l es et. let z = u.no_line n k at (es ∙ sym (ap (λ x. x.station) is-l)) in let y : k.turn ≡ starts h p = et ∙ sym (ap (λ x. x.turn) is-l) in omega arith in
          record {
            number = cond-true (tells_counted t) _ _ tells ∙ ap suc b.number ∙ sym (length_push ls l ∙ add-one _);
            standing = by_station (e ∷ h) (ls ++ l ∷ [])
                (λ q d. standing_more e h ls q refl refl l (λ x. d (sym x)) (st q) (b.standing q))
                (⊎_elim (λ x. subst (Standing (e ∷ h) (ls ++ l ∷ []) p) (sym x) r) (λ x. subst (Standing (e ∷ h) (ls ++ l ∷ []) p) (sym x) r) is);
            waiting = waiting_at (not (tells_ready t)) on;
            orderly = orderly_later e (λ q u x. impossible (cc));
            origin = λ n j at.
                ⊎_elim (λ old. origin_later e n j old)
                (λ new. (u.before, subst (λ x. Written (e ∷ h) u.before x j) (sym new.0) (subst (λ x. Written (e ∷ h) u.before (length ls) x) new.1 w)))
                (nth_cases ls l n j at);
            one_line = λ m n k j am an es et.
                ⊎_elim
                (λ om. ⊎_elim (λ on. b.one_line m n k j om on es et) (λ nn. absurd (mixed m k j om nn.1 es et)) (nth_cases ls l n j an))
                (λ nm. ⊎_elim (λ on. absurd (mixed n j k on nm.1 (sym es) (sym et))) (λ nn. nm.0 ∙ sym nn.0) (nth_cases ls l n j an))
                (nth_cases ls l m k am);
            collected_line = collected_later e (l ∷ []) (λ q c x. impossible (cc));
            collected_start = start_later e (λ q c x. impossible (cc));
            replays = replay_line plain ls l plain.empty now then b.replays applied;
            listed = listed_more e (l ∷ []) (λ i j x. impossible (cc));
          }

      collected_now : (o : Op) (a : Answer) → st p ≡ Ready o a → (u : Op) (before : List (Event Op Answer Item)) → Has h before (started p u) →
          collects h p ≡ collects before p → HasLine ls p u a before h
      collected_now o a was u before k f =
          let r : Answered h ls p o a = subst (Standing h ls p) was (b.standing p) in
          let e : starts r.before p ≡ starts before p =
          b.orderly p o r.before r.current.start ∙ sym r.current.none_since ∙ f ∙ sym (b.orderly p u before k) in
          let same = starts_one r.current.start k e in
          subst (λ x. HasLine ls p x a before h) same.1 (subst (λ x. HasLine ls p o a x h) same.0 r.has_line)

      pub collected_book : (o : Op) (a : Answer) → st p ≡ Ready o a → su p ≡ Free → Book (collected p a ∷ h) ls su now
      collected_book o a was is =
          let r : Answered h ls p o a = subst (Standing h ls p) was (b.standing p) in
          record {
            number = b.number;
            standing = by_station (collected p a ∷ h) ls
                (λ q d. standing_same (collected p a) h ls q refl (collects_other h p q a d) (st q) (b.standing q))
                (subst (Standing (collected p a ∷ h) ls p) (sym is) (r.current.ahead ∙ sym (collects_same h p a)));
            waiting = λ q.
                ⊎_elim (λ d. subst (λ x. is_waiting (su x) ≡ waits h x) (sym d) (ap is_waiting is ∙ sym (ap is_waiting was) ∙ b.waiting p))
                (λ d. ap is_waiting (keeps q d) ∙ b.waiting q) (cases_eq q p);
            orderly = orderly_later (collected p a) (λ q u x. impossible (cc));
            origin = origin_later (collected p a);
            one_line = b.one_line;
            collected_line = λ q u c before until has k f.
                ⊎_elim
                (λ x. let ep : p ≡ q = cc in let ea : a ≡ c = cc in
                subst (λ g. Has g before (started q u) → collects g q ≡ collects before q → HasLine ls q u c before g) x.0
                (subst (λ y. Has h before (started y u) → collects h y ≡ collects before y → HasLine ls y u c before h) ep
                (subst (λ y. Has h before (started p u) → collects h p ≡ collects before p → HasLine ls p u y before h) ea (collected_now o a was u before))) k f)
                (λ x. b.collected_line q u c before until x k f) (has_cases has);
            collected_start = λ q c until has.
                ⊎_elim
                (λ x. let ep : p ≡ q = cc in
                subst (λ g. (before : List (Event Op Answer Item)) × (u : Op) × Has g before (started q u) × (collects g q ≡ collects before q)) x.0
                (subst (λ y. (before : List (Event Op Answer Item)) × (u : Op) × Has h before (started y u) × (collects h y ≡ collects before y)) ep
                (r.before, o, r.current.start, r.current.none_since)))
                (b.collected_start q c until) (has_cases has);
            replays = b.replays;
            listed = listed_same (collected p a) (λ k l x. impossible (cc));
          }
