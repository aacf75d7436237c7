-- A nest that was just made is sound and fresh.
use Rattle.std.proofs.Common.{◌≡◌, ℕ, zero, suc, ◌+◌, ◌≤◌, Bool, true, false, cond, ◌&&◌, leb, ◌≢◌, List, [], ◌∷◌, length, get_or, take, set, replicate, Some, None, Err, Option, Result, refl, ap, ◌∙◌, ⊎_elim, arith, length-take}
use lib.ListN.{length-replicate, get_or-replicate, get_or-eq_default}
use Rattle.std.proofs.lemmas.Bool.{cases_lt, lt-ltb, leb-true, and_parts}
use Rattle.boards.specs.Board.{Fresh}
use Rattle.keys.specs.declared.refusal.Refusal.{Refusal}
use Rattle.keys.specs.declared.refusal.Refusal.TheVariants.{StationCount, NestSize, ShortTable}
use Rattle.plain_model.specs.declared.nest_op.NestOp.{NestOp}
use Rattle.plain_model.specs.declared.nest_op.NestOp.TheVariants.{Add, Drop, Find}
use Rattle.nest_model.specs.declared.cell.Cell.{Cell}
use Rattle.nest_model.specs.declared.node.Node.{Node}
use Rattle.nest_model.specs.declared.work.Work.{Work}
use Rattle.nest_model.specs.declared.work.Work.TheVariants.{Free}
use Rattle.nest_model.specs.Ends.{lt, Lt}
use Rattle.nest_model.specs.Cells.{front, back, link, cell_at, key_at, written}
use Rattle.nest_model.specs.Model.{work_at, station_of}
use Rattle.nest_model.specs.Chain.{after, listing, Reach}
use Rattle.nest_model.specs.Live.{Names}
use Rattle.nest_model.specs.Meaning.{means}
use Rattle.nest_model.specs.Sound.{Chained, Sound}
use Rattle.nest_model.specs.Making.{is_long, accepted, refusal, joined, made}
use Rattle.nest_model.proofs.Places.{cell_written, cell_other, length_written}

-- the sizes that a check lets pass
pub record Sizes (stations size nodes works : ℕ) : Type 0 where
  pub some_stations : 1 ≤ stations
  pub few_stations : stations ≤ 16
  pub some_nodes : 1 ≤ size
  pub few_nodes : size ≤ 512
  pub long_nodes : size + 2 ≤ nodes
  pub long_works : stations ≤ works

pub sizes : (stations size nodes works : ℕ) → refusal stations size nodes works ≡ accepted → Sizes stations size nodes works
sizes stations size nodes works e = go _ _ _ refl refl refl e
  where
    clash : {A : Type 0} (x : Refusal) → ◌≡◌ {A = Result (Unit {0}) Refusal} (Err x) accepted → A
    clash x e = let z : ◌≡◌ {A = ℕ} 0 1 = cc in absurd (omega arith)

    go : (a b c : Bool) → (leb 1 stations && leb stations 16) ≡ a → (leb 1 size && leb size 512) ≡ b → is_long stations size nodes works ≡ c →
        cond a (cond b (cond c accepted (Err ShortTable)) (Err NestSize)) (Err StationCount) ≡ accepted → Sizes stations size nodes works
    go false b c p q r e = clash StationCount e
    go true false c p q r e = clash NestSize e
    go true true false p q r e = clash ShortTable e
    go true true true p q r e =
        let i = and_parts (leb 1 stations) (leb stations 16) p in let j = and_parts (leb 1 size) (leb size 512) q in
        let k = and_parts (leb (size + 2) nodes) (leb stations works) r in
        record {
          some_stations = leb-true 1 stations i.0;
          few_stations = leb-true stations 16 i.1;
          some_nodes = leb-true 1 size j.0;
          few_nodes = leb-true size 512 j.1;
          long_nodes = leb-true (size + 2) nodes k.0;
          long_works = leb-true stations works k.1;
        }

-- what a check says once it let the number of stations pass
module _ (stations size nodes works : ℕ) (s : (leb 1 stations && leb stations 16) ≡ true) where
  pub size_refused : (leb 1 size && leb size 512) ≡ false → Err NestSize ≡ refusal stations size nodes works
  size_refused n = rw (s, n) refl

  pub table_refused : (leb 1 size && leb size 512) ≡ true → is_long stations size nodes works ≡ false → Err ShortTable ≡ refusal stations size nodes works
  table_refused n t = rw (s, n, t) refl

  pub all_accepted : (leb 1 size && leb size 512) ≡ true → is_long stations size nodes works ≡ true → accepted ≡ refusal stations size nodes works
  all_accepted n t = rw (s, n, t) refl

module _ {K : Type 0} (stations size : ℕ) (ns : List (Node K)) (long : size + 2 ≤ length ns) where
  abbrev table : List (Node K)
  table = (made stations size ns).nodes

  taken_length : length (take (size + 2) ns) ≡ size + 2
  taken_length = length-take (size + 2) ns ∙ omega arith

  pub made_length : length table ≡ size + 2
  made_length = length_written (written (take (size + 2) ns) front (link (Some back))) back (link None) ∙ length_written (take (size + 2) ns) front (link (Some back)) ∙ taken_length

  front_cell : cell_at table 0 ≡ link (Some 1)
  front_cell =
      cell_other (written (take (size + 2) ns) front (link (Some back))) back (link None) 0 (omega arith) ∙
      cell_written (take (size + 2) ns) front (link (Some back)) (let e = taken_length in omega arith)

  back_cell : cell_at table 1 ≡ link None
  back_cell =
      cell_written (written (take (size + 2) ns) front (link (Some back))) back (link None)
      (let e = length_written (take (size + 2) ns) front (link (Some back)) ∙ taken_length in omega arith)

  work_free : (p : ℕ) → work_at {K = K} (replicate stations Free) p ≡ Free
  work_free zero = refl
  work_free (suc i) =
      ⊎_elim (λ h. get_or-replicate stations i Free Free h)
      (λ h. get_or-eq_default (replicate stations Free) Free (let e = length-replicate {A = Work K} stations Free in omega arith)) (cases_lt i stations)

  module _ (before : K → K → Bool) where
    made_chain : Chained before (cell_at table) (key_at table) 2 (λ n. leb n 1)
    unfolding lt
    made_chain = record {
      low_key = refl;
      high_key = refl;
      front_in = refl;
      back_in = refl;
      front_plain = ap (λ (d : Cell). d.mark) front_cell;
      back_plain = ap (λ (d : Cell). d.mark) back_cell;
      fits = λ n e. omega (arith, leb-true n 1 e);
      named = by_two (λ n. n ≢ 1 → Names (cell_at table n).next) (λ d. rw front_cell) (λ d. absurd (d refl));
      onward = by_two (λ n. n ≢ 1 → leb (after (cell_at table) n) 1 ≡ true) (λ d. rw front_cell) (λ d. absurd (d refl));
      rises = by_two (λ n. n ≢ 1 → Lt before (key_at table n) (key_at table (after (cell_at table) n))) (λ d. rw front_cell) (λ d. absurd (d refl));
      chained = by_two (λ n. (cell_at table n).mark ≡ false → Reach (cell_at table) n 0) (λ m. Reach.at)
          (λ m. Reach.via (omega arith) (rw front_cell Reach.at));
    }
      where
        by_two : (P : ℕ → Type 0) → P 0 → P 1 → (n : ℕ) → leb n 1 ≡ true → P n
        by_two P a b zero e = a
        by_two P a b (suc zero) e = b
        by_two P a b (suc (suc n)) e = absurd (let h = leb-true (suc (suc n)) 1 e in omega arith)

    pub made_sound : 1 ≤ stations → stations ≤ 16 → Sound before (made stations size ns)
    made_sound a b =
        let e = length-replicate {A = Work K} stations Free in
        record {
          some_stations = omega arith;
          few_stations = omega arith;
          enough = omega arith;
          tabled = made_length;
          linked = λ n. leb n 1;
          chain = made_chain;
          each = λ p. rw (work_free p) tt;
          apart = λ p q d n o. let z : ◌≡◌ {A = Option ℕ} None (Some n) = rw (work_free p) at o in let w : ◌≡◌ {A = ℕ} 0 1 = cc in λ _. omega arith;
        }

    pub made_fresh : 1 ≤ size → Fresh (means before) [] (made stations size ns)
    made_fresh h = record { contents = empty (size + 2); station = λ p. ap station_of (work_free p); space = spaced }
      where
        empty : (f : ℕ) → listing (cell_at table) (key_at table) f 0 ≡ []
        empty zero = refl
        empty (suc zero) = rw front_cell refl
        empty (suc (suc f)) = rw front_cell refl

        spaced : (o : NestOp K) → (means before).space (made stations size ns) o ≡ true
        spaced (Add k) = lt-ltb 0 size h
        spaced (Drop k) = refl
        spaced (Find k) = refl

-- two writes to the ends are the table with its ends joined
pub joined_by : {K : Type 0} (ns : List (Node K)) (x y : Node K) (d e : Cell) → 2 ≤ length ns → x ≡ get_or ns 0 x → d ≡ link (Some back) →
    y ≡ get_or (set ns 0 (record { key = x.key; cell = d })) 1 y → e ≡ link None →
    set (set ns 0 (record { key = x.key; cell = d })) 1 (record { key = y.key; cell = e }) ≡ joined ns
joined_by [] x y d e h p q r t = absurd (omega arith)
joined_by (a ∷ []) x y d e h p q r t = absurd (omega arith)
joined_by (a ∷ b ∷ ns) x y d e h p q r t = λ i. record { key = (p i).key; cell = q i } ∷ record { key = (r i).key; cell = t i } ∷ ns
