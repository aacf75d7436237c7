-- Histories: the order of events, and what one more event does to what a history counts.
use Rattle.std.proofs.Common.{◌≡◌, ℕ, suc, ◌≤◌, Bool, true, false, cond, eqb, ◌≢◌, ◌⊎◌, List, [], ◌∷◌, Option, sym, refl, subst, inl, inr, ⊎_elim, arith}
use Rattle.std.proofs.lemmas.Bool.{cond-true, cond-false, eq-eqb, ne_eqb, cases_eq}
use Rattle.boards.specs.declared.outcome.Outcome.{Outcome}
use Rattle.floor_model.specs.declared.line.Line.{Line}
use Rattle.floor_model.specs.Floor.{tells_counted}
use Rattle.floor_model.specs.History.{Event, started, touched, collected, shown, refused, Has, last, past, starts, collects, touches, counts, Written}
use Rattle.floor_model.proofs.Lists.{impossible}

pub has_cases : {E : Type 0} {x e : E} {h b : List E} → Has (x ∷ h) b e → ((h ≡ b) × (x ≡ e)) ⊎ Has h b e
has_cases last = inl (refl, refl)
has_cases (past r) = inr r

-- two events of one history are the same, or one came before the other
pub has_order : {E : Type 0} {h b c : List E} {d e : E} → Has h b d → Has h c e → ((b ≡ c) × (d ≡ e)) ⊎ (Has b c e ⊎ Has c b d)
has_order last r = ⊎_elim inl (λ k. inr (inl k)) (has_cases r)
has_order {b = b} {d = d} (past k) r = ⊎_elim (λ q. inr (inr (subst (λ x. Has x b d) q.0 k))) (λ q. has_order k q) (has_cases r)

pub has_in : {E : Type 0} {h b c : List E} {d e : E} → Has h b d → Has b c e → Has h c e
has_in last r = past r
has_in (past k) r = past (has_in k r)

pub has_none : {E : Type 0} {X : Type 0} {h b : List E} {e : E} → Has h b e → h ≡ [] → X
has_none last q = impossible (cc)
has_none (past r) q = impossible (cc)

counts_touched : (b : Bool) (n : ℕ) → n ≤ cond b (suc n) n
counts_touched true n = omega arith
counts_touched false n = omega arith

module _ {Op Answer Item : Type 0} where
  pub starts_same : (h : List (Event Op Answer Item)) (p : ℕ) (o : Op) → starts (started p o ∷ h) p ≡ suc (starts h p)
  starts_same h p o = cond-true (eqb p p) _ _ (eq-eqb p p refl)

  pub starts_other : (h : List (Event Op Answer Item)) (p q : ℕ) (o : Op) → q ≢ p → starts (started p o ∷ h) q ≡ starts h q
  starts_other h p q o n = cond-false (eqb p q) _ _ (ne_eqb p q (λ e. n (sym e)))

  pub collects_same : (h : List (Event Op Answer Item)) (p : ℕ) (a : Answer) → collects (collected p a ∷ h) p ≡ suc (collects h p)
  collects_same h p a = cond-true (eqb p p) _ _ (eq-eqb p p refl)

  pub collects_other : (h : List (Event Op Answer Item)) (p q : ℕ) (a : Answer) → q ≢ p → collects (collected p a ∷ h) q ≡ collects h q
  collects_other h p q a n = cond-false (eqb p q) _ _ (ne_eqb p q (λ e. n (sym e)))

  pub touches_same : (h : List (Event Op Answer Item)) (p : ℕ) (t : Outcome) (a : Option Answer) → touches (touched p t a ∷ h) p ≡ suc (touches h p)
  touches_same h p t a = cond-true (eqb p p) _ _ (eq-eqb p p refl)

  pub starts_grow : (e : Event Op Answer Item) (h : List (Event Op Answer Item)) (p : ℕ) → starts h p ≤ starts (e ∷ h) p
  starts_grow (started q o) h p =
      ⊎_elim (λ e. let k = starts_same h p o in subst (λ x. starts h p ≤ starts (started x o ∷ h) p) (sym e) (omega arith))
      (λ n. let k = starts_other h q p o (λ e. n (sym e)) in omega arith) (cases_eq q p)
  starts_grow (touched q t a) h p = omega arith
  starts_grow (collected q a) h p = omega arith
  starts_grow (shown k l) h p = omega arith
  starts_grow (refused c) h p = omega arith

  pub starts_below : {h b : List (Event Op Answer Item)} {p : ℕ} {o : Op} → Has h b (started p o) → suc (starts b p) ≤ starts h p
  starts_below {h} {b} {p} {o} r = below r refl
    where
      below : {h b : List (Event Op Answer Item)} {e : Event Op Answer Item} → Has h b e → e ≡ started p o → suc (starts b p) ≤ starts h p
      below (last {e = e} {earlier = b}) q = let k = starts_same b p o in subst (λ x. suc (starts b p) ≤ starts (x ∷ b) p) (sym q) (omega arith)
      below (past {x = x} {h = h} r) q = let i = below r q in let g = starts_grow x h p in omega arith

  -- two starts of a station with as many before them are one start
  pub starts_one : {h b c : List (Event Op Answer Item)} {p : ℕ} {o u : Op} → Has h b (started p o) → Has h c (started p u) → starts b p ≡ starts c p →
      (b ≡ c) × (o ≡ u)
  starts_one {b = b} {c = c} {p = p} {o = o} {u = u} r k e =
      ⊎_elim (λ q. (q.0, same q.1)) (⊎_elim (λ i. let z = starts_below i in absurd (omega arith)) (λ i. let z = starts_below i in absurd (omega arith))) (has_order r k)
    where
      same : ◌≡◌ {A = Event Op Answer Item} (started p o) (started p u) → o ≡ u
      same q = cc

  counts_grow : (e : Event Op Answer Item) (h : List (Event Op Answer Item)) → counts h ≤ counts (e ∷ h)
  counts_grow (started q o) h = omega arith
  counts_grow (touched q t a) h = counts_touched (tells_counted t) (counts h)
  counts_grow (collected q a) h = omega arith
  counts_grow (shown k l) h = omega arith
  counts_grow (refused c) h = omega arith

  pub counts_before : {h b : List (Event Op Answer Item)} {e : Event Op Answer Item} → Has h b e → counts b ≤ counts h
  counts_before (last {e = e} {earlier = b}) = counts_grow e b
  counts_before (past {x = x} {h = h} r) = let i = counts_before r in let g = counts_grow x h in omega arith

  pub written_later : {h b : List (Event Op Answer Item)} {n : ℕ} {l : Line Op Answer} (e : Event Op Answer Item) → Written h b n l → Written (e ∷ h) b n l
  written_later e w = record { until = w.until; outcome = w.outcome; counted = w.counted; touch = past w.touch; place = w.place; start = w.start; turn = w.turn }
