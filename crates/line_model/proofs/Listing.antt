-- A loop that writes f of every place over a list, place by place.
use Rattle.std.proofs.Common.{◌≡◌, ℕ, ◌+◌, ◌<◌, ◌≤◌, List, [], ◌∷◌, ◌++◌, map, length, get_or, take, drop, set, sym, ap, ◌∙◌, arith}
use Rattle.std.proofs.lemmas.List.{append_assoc, append-nil, drop_more, drop_all, take_all, map_more, length-map, length-take-le, get_or_at, set_at}

-- f of every place up to i is written over a list
module _ {X : Type 0} (f : X → X) (xs zs : List X) (i : ℕ) where
  pub mapped_next : (x : X) → i < length xs → zs ≡ map f (take i xs) ++ drop i xs → x ≡ get_or zs i x →
      set zs i (f x) ≡ map f (take (i + 1) xs) ++ drop (i + 1) xs
  mapped_next x h e r =
      let n : length (map f (take i xs)) ≡ i = length-map (take i xs) f ∙ length-take-le i xs (omega arith) in
      let d : drop i xs ≡ get_or xs i x ∷ drop (i + 1) xs = drop_more xs i x h in
      let y : x ≡ get_or xs i x =
      r ∙ ap (λ (us : List X). get_or us i x) (e ∙ ap (λ (us : List X). map f (take i xs) ++ us) d) ∙ get_or_at (map f (take i xs)) (get_or xs i x) (drop (i + 1) xs) x i n in
      ap (λ (us : List X). set us i (f x)) (e ∙ ap (λ (us : List X). map f (take i xs) ++ us) d)
      ∙ set_at (map f (take i xs)) (get_or xs i x) (drop (i + 1) xs) (f x) i n
      ∙ sym (append_assoc (map f (take i xs)) (f x ∷ []) (drop (i + 1) xs))
      ∙ ap (λ (u : X). (map f (take i xs) ++ f u ∷ []) ++ drop (i + 1) xs) y
      ∙ ap (λ (us : List X). us ++ drop (i + 1) xs) (sym (map_more f xs i x h))

  pub mapped_end : length xs ≤ i → zs ≡ map f (take i xs) ++ drop i xs → zs ≡ map f xs
  mapped_end h e =
      e ∙ ap (λ (us : List X). map f (take i xs) ++ us) (drop_all i xs h) ∙ append-nil (map f (take i xs)) ∙ ap (map f) (take_all i xs h)
