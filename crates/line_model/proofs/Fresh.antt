-- A line that is made is sound, empty and free, over node tables of any content.
use Rattle.std.proofs.Common.{◌≡◌, ℕ, zero, suc, ◌+◌, ◌-◌, ◌<◌, ◌≤◌, Bool, true, false, cond, ◌&&◌, ltb, leb, ◌≢◌, ◌⊎◌, List, [], ◌∷◌, length, get_or, take, replicate, None, Err, sym, refl, ap, subst, inl, inr, arith}
use lib.ListN.{length-replicate, length-map}
use Rattle.std.proofs.lemmas.Bool.{and_parts, and_left, and_right, and_from, leb-true, ltb-true, lt-ltb, le-ltb, le-leb, lt-leb, cases_eq, cond_both}
use Rattle.std.proofs.lemmas.List.{length-take-le}
use Rattle.keys.specs.declared.refusal.Refusal.TheVariants.{StationCount, LineSize, ShortTable}
use Rattle.plain_model.specs.declared.line_op.LineOp.{LineOp}
use Rattle.plain_model.specs.declared.line_op.LineOp.TheVariants.{Put, Take}
use Rattle.boards.specs.Board.{Fresh}
use Rattle.line_model.specs.declared.node.Node.{Node}
use Rattle.line_model.specs.declared.seat.Seat.TheVariants.{Free}
use Rattle.line_model.specs.Nodes.{next_of, toward}
use Rattle.line_model.specs.Seats.{seat_of, station_of, own_of}
use Rattle.line_model.specs.Line.{LineModel, has_space}
use Rattle.line_model.specs.Within.{IsWithin, in_next, in_seat}
use Rattle.line_model.specs.Meaning.{means}
use Rattle.line_model.specs.Fresh.{fresh, unlinked, checked, fine}
use Rattle.line_model.specs.Sound.{Sound, Chain, Linked, Seated}
use Rattle.line_model.proofs.Ranks.{put, put_other}
use Rattle.line_model.proofs.Walk.{after_none}
use Rattle.line_model.proofs.Chains.{never}

pub all_same : {A : Type 0} (n i : ℕ) (a : A) → get_or (replicate n a) i a ≡ a
all_same zero i a = refl
all_same (suc n) zero a = refl
all_same (suc n) (suc i) a = all_same n i a

abbrev first_rank : ℕ → ℕ
first_rank = put (λ _. 0) 0 1

rank_zero : (a : ℕ) → ((first_rank a ≡ 1) × (a ≡ 0)) ⊎ ((first_rank a ≡ 0) × (a ≢ 0))
rank_zero a = elim (cases_eq a 0) [ inl e ↦ inl (ap first_rank e, e) | inr n ↦ inr (put_other (λ _. 0) 0 1 a n, n) ]

-- what a check that refuses nothing says
pub record Sizes (s m nodes seats : ℕ) : Type 0 where
  pub some_stations : 1 ≤ s
  pub few_stations : s ≤ 16
  pub some_nodes : 1 ≤ m
  pub few_nodes : m ≤ 512
  pub long_nodes : m < nodes
  pub long_seats : s ≤ seats

pub sizes : (s m nodes seats : ℕ) → checked s m nodes seats ≡ fine → Sizes s m nodes seats
sizes s m nodes seats h = first (leb 1 s && leb s 16) (leb 1 m && leb m 512) (ltb m nodes && leb s seats) refl refl refl h
  where
    first : (a b c : Bool) → (leb 1 s && leb s 16) ≡ a → (leb 1 m && leb m 512) ≡ b → (ltb m nodes && leb s seats) ≡ c →
        cond a (cond b (cond c fine (Err ShortTable)) (Err LineSize)) (Err StationCount) ≡ fine → Sizes s m nodes seats
    first true true true a b c e =
        let x = and_parts (leb 1 s) (leb s 16) a in
        let y = and_parts (leb 1 m) (leb m 512) b in
        let z = and_parts (ltb m nodes) (leb s seats) c in
        record {
          some_stations = leb-true 1 s x.0;
          few_stations = leb-true s 16 x.1;
          some_nodes = leb-true 1 m y.0;
          few_nodes = leb-true m 512 y.1;
          long_nodes = ltb-true m nodes z.0;
          long_seats = leb-true s seats z.1;
        }
    first false b c _ _ _ e = let z : ◌≡◌ {A = ℕ} 0 1 = cc in absurd (omega arith)
    first true false c _ _ _ e = let z : ◌≡◌ {A = ℕ} 0 1 = cc in absurd (omega arith)
    first true true false _ _ _ e = let z : ◌≡◌ {A = ℕ} 0 1 = cc in absurd (omega arith)

-- what a check says, test by test
module _ (s m nodes seats : ℕ) where
  pub station_count : false ≡ (leb 1 s && leb s 16) → Err StationCount ≡ checked s m nodes seats
  station_count e = rw (← e)

  pub line_size : true ≡ (leb 1 s && leb s 16) → false ≡ (leb 1 m && leb m 512) → Err LineSize ≡ checked s m nodes seats
  line_size e f = rw (← e, ← f)

  module _ (e : true ≡ (leb 1 s && leb s 16)) (f : true ≡ (leb 1 m && leb m 512)) where
    by_tables : (b : Bool) → (ltb m nodes && leb s seats) ≡ b → cond b fine (Err ShortTable) ≡ checked s m nodes seats
    by_tables b h = rw (← e, ← f, h)

    pub short_table : (nodes ≤ m) ⊎ ((m < nodes) × (seats < s)) → Err ShortTable ≡ checked s m nodes seats
    short_table h = by_tables false (elim h [ inl l ↦ and_left (ltb m nodes) (leb s seats) (le-ltb m nodes l) | inr l ↦ and_right (ltb m nodes) (leb s seats) (lt-leb s seats l.1) ])

    pub none_refused : m < nodes → s ≤ seats → fine ≡ checked s m nodes seats
    none_refused h l = by_tables true (and_from (ltb m nodes) (leb s seats) (lt-ltb m nodes h) (le-leb s seats l))

-- a table that is unlinked stays as it is
pub unlinked_again : {E : Type 0} (ns : List (Node E)) → unlinked ns ≡ unlinked (unlinked ns)
unlinked_again [] = refl
unlinked_again {E = E} (x ∷ ns) = ap (λ (xs : List (Node E)). toward None x ∷ xs) (unlinked_again ns)

unlinked_next : {E : Type 0} (k : ℕ) (ns : List (Node E)) (a : ℕ) → next_of (take k (unlinked ns)) a ≡ None
unlinked_next zero ns a = refl
unlinked_next (suc k) [] a = refl
unlinked_next (suc k) (x ∷ ns) zero = refl
unlinked_next (suc k) (x ∷ ns) (suc a) = unlinked_next k ns a

module _ {E : Type 0} (s m : ℕ) (ns : List (Node E)) (seats : ℕ) (z : Sizes s m (length ns) seats) where
  abbrev F : LineModel E
  F = fresh s m ns

  pub fresh_length : length F.nodes ≡ m + 1
  fresh_length = length-take-le (m + 1) (unlinked ns) (simp length-map (omega (arith, z.long_nodes)))

  pub fresh_seat : (p : ℕ) → seat_of F.seats p ≡ Free
  fresh_seat p = cond_both (leb 1 p) (get_or (replicate s Free) (p - 1) Free) Free (λ x. x ≡ Free) (λ _. all_same s (p - 1) Free) (λ _. refl)

  pub fresh_next : (a : ℕ) → next_of F.nodes a ≡ None
  fresh_next a = unlinked_next (m + 1) ns a

  fresh_chain : Chain F.nodes 1 0 0 first_rank 1
  fresh_chain = record {
    fits = omega (arith, fresh_length);
    below = λ a h. omega (arith, rank_zero a);
    most = λ a. omega (arith, rank_zero a);
    only = λ a b h q. omega (arith, rank_zero a, rank_zero b);
    linked = λ a h. subst (Linked first_rank 1 (first_rank a)) (sym (fresh_next a)) (omega (arith, rank_zero a));
    all = refl;
    head_on = omega (arith, rank_zero 0);
    head_tail = omega arith;
    tail_last = omega arith;
  }

  pub fresh_sound : Sound F
  fresh_sound = record {
    some_seats = simp length-replicate z.some_stations;
    few_seats = simp length-replicate z.few_stations;
    rank = first_rank;
    last = 1;
    chain = fresh_chain;
    seated = λ p. subst (Seated F.nodes 1 first_rank (first_rank 0) (first_rank 0)) (sym (fresh_seat p)) tt;
    apart = λ p q a x y. absurd (never (own_of (seat_of F.seats p)) (ap own_of (fresh_seat p)) x);
  }

  pub fresh_within : IsWithin F
  fresh_within = record {
    some_nodes = omega (arith, fresh_length, z.some_nodes);
    few_nodes = omega (arith, fresh_length, z.few_nodes);
    some_seats = simp length-replicate z.some_stations;
    few_seats = simp length-replicate z.few_stations;
    fits = omega (arith, fresh_length, z.some_nodes);
    heads = omega (arith, fresh_length, z.some_nodes);
    tails = omega (arith, fresh_length, z.some_nodes);
    nexts = λ a. ap (in_next (length F.nodes)) (fresh_next a);
    sits = λ i. ap (in_seat (length F.nodes)) (all_same s i Free);
  }

  pub fresh_fresh : Fresh means [] F
  fresh_fresh = record { contents = after_none 1 F.nodes 0 (fresh_next 0); station = λ p. ap station_of (fresh_seat p); space = space }
    where
      space : (o : LineOp E) → has_space F o ≡ true
      space (Put e) = lt-ltb 1 (length F.nodes) (omega (arith, fresh_length, z.some_nodes))
      space Take = refl
