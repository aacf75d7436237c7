-- A change of one side at one station is such a change of the pair, and keeps it sound.
use Rattle.std.proofs.Common.{◌≡◌, ℕ, min, max, false, cond, ◌&&◌, leb, ◌≢◌, sym, refl, ap, ◌∙◌, subst, ⊎_elim}
use Rattle.std.proofs.lemmas.Bool.{cases_eq}
use Rattle.plain_model.specs.declared.side.Side.{Side}
use Rattle.boards.specs.Board.{Meaning, is_free, exists}
use Rattle.boards.specs.Laws.{KeepsOthers}
use Rattle.boards.specs.declared.station.Station.TheVariants.{Free}
use Rattle.pair_model.specs.Pair.{either, pair_means, Sound}
use Rattle.pair_model.proofs.PairStations.{never}

module _ {M N S T O P A B : Type 0} (means : Meaning M S O A) (means' : Meaning N T P B) (m : M × N) (p : ℕ) where
  abbrev both : Meaning (M × N) (S × T) (Side O P) (Side A B)
  both = pair_means means means'

  pub same_others : KeepsOthers both m m p
  same_others = record { stations = refl; bound = refl; station = λ q other. refl }

  -- the same stations exist as long as their number stays
  exists_same : (k : M × N) → KeepsOthers both m k p → (q : ℕ) → exists both k q ≡ exists both m q
  exists_same k keeps q = ap (λ n. leb 1 q && leb q n) keeps.stations

  module _ (x : M) (keeps : KeepsOthers means m.0 x p) where
    pub first_others : KeepsOthers both m (x, m.1) p
    first_others = record {
      stations = ap (λ n. min n (means'.stations m.1)) keeps.stations;
      bound = ap (λ n. max n (means'.bound m.1)) keeps.bound;
      station = λ q other. ap (λ s. either s (means'.station m.1 q)) (keeps.station q other);
    }

    pub first_distances : ((q : ℕ) → q ≢ p → means.distance x q ≡ means.distance m.0 q) →
        (q : ℕ) → q ≢ p → both.distance (x, m.1) q ≡ both.distance m q
    first_distances same q other =
        ap (λ s. cond (is_free s) (means'.distance m.1 q) (means.distance x q)) (keeps.station q other) ∙
        ap (λ d. cond (is_free (means.station m.0 q)) (means'.distance m.1 q) d) (same q other)

    -- the station is free at the other side, and stays free where the pair has no such station
    pub first_sound : {sound : M → Type 0} {sound' : N → Type 0} → Sound means means' sound sound' m → sound x →
        means'.station m.1 p ≡ Free → (exists both m p ≡ false → means.station x p ≡ Free) → Sound means means' sound sound' (x, m.1)
    first_sound ok sound-x alone gone = record {
      first = sound-x;
      second = ok.second;
      apart = λ q busy. ⊎_elim (λ same. subst (λ r. means'.station m.1 r ≡ Free) (sym same) alone)
          (λ other. ok.apart q (sym (ap is_free (keeps.station q other)) ∙ busy)) (cases_eq q p);
      missing_first = λ q lacks. ⊎_elim
          (λ same. subst (λ r. means.station x r ≡ Free) (sym same) (gone (subst (λ r. exists both m r ≡ false) same (was q lacks))))
          (λ other. keeps.station q other ∙ ok.missing_first q (was q lacks)) (cases_eq q p);
      missing_second = λ q lacks. ok.missing_second q (was q lacks);
    }
      where
        was : (q : ℕ) → exists both (x, m.1) q ≡ false → exists both m q ≡ false
        was q lacks = sym (exists_same (x, m.1) first_others q) ∙ lacks

  module _ (y : N) (keeps : KeepsOthers means' m.1 y p) where
    pub second_others : KeepsOthers both m (m.0, y) p
    second_others = record {
      stations = ap (λ n. min (means.stations m.0) n) keeps.stations;
      bound = ap (λ n. max (means.bound m.0) n) keeps.bound;
      station = λ q other. ap (λ t. either (means.station m.0 q) t) (keeps.station q other);
    }

    pub second_distances : ((q : ℕ) → q ≢ p → means'.distance y q ≡ means'.distance m.1 q) →
        (q : ℕ) → q ≢ p → both.distance (m.0, y) q ≡ both.distance m q
    second_distances same q other = ap (λ d. cond (is_free (means.station m.0 q)) d (means.distance m.0 q)) (same q other)

    pub second_sound : {sound : M → Type 0} {sound' : N → Type 0} → Sound means means' sound sound' m → sound' y →
        means.station m.0 p ≡ Free → (exists both m p ≡ false → means'.station y p ≡ Free) → Sound means means' sound sound' (m.0, y)
    second_sound ok sound-y alone gone = record {
      first = ok.first;
      second = sound-y;
      apart = λ q busy. keeps.station q (elsewhere q busy) ∙ ok.apart q busy;
      missing_first = λ q lacks. ok.missing_first q (was q lacks);
      missing_second = λ q lacks. ⊎_elim
          (λ same. subst (λ r. means'.station y r ≡ Free) (sym same) (gone (subst (λ r. exists both m r ≡ false) same (was q lacks))))
          (λ other. keeps.station q other ∙ ok.missing_second q (was q lacks)) (cases_eq q p);
    }
      where
        was : (q : ℕ) → exists both (m.0, y) q ≡ false → exists both m q ≡ false
        was q lacks = sym (exists_same (m.0, y) second_others q) ∙ lacks

        elsewhere : (q : ℕ) → is_free (means.station m.0 q) ≡ false → q ≢ p
        elsewhere q busy same = never (sym (ap is_free alone) ∙ sym (ap (λ r. is_free (means.station m.0 r)) same) ∙ busy)
