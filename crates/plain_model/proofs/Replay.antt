-- A replay of two lists joined is one replay after the other.
use Rattle.std.proofs.Common.{◌≡◌, ℕ, ◌+◌, ◌<◌, List, [], ◌∷◌, ◌++◌, length, get_or, take, sym, refl, ap, ◌∙◌}
use Rattle.std.proofs.lemmas.List.{take_more}
use Rattle.plain_model.specs.Machine.{Machine, replay, Joins}

pub replay_joins : {State Op Answer Item : Type 0} (m : Machine State Op Answer Item) → Joins m
replay_joins m [] ys s = refl
replay_joins m (x ∷ xs) ys s = ap (λ r. (r.0, (m.apply x s).1 ∷ r.1)) (replay_joins m xs ys (m.apply x s).0)

-- one operation more
pub replay_more : {State Op Answer Item : Type 0} (m : Machine State Op Answer Item) (ops : List Op) (i : ℕ) (o : Op) (s t u : State) (told : List Answer) (a : Answer) →
    i < length ops → o ≡ get_or ops i o → (t, told) ≡ replay m (take i ops) s → (u, a) ≡ m.apply o t → (u, told ++ a ∷ []) ≡ replay m (take (i + 1) ops) s
replay_more {State} {Op} {Answer} m ops i o s t u told a l at p e =
    ap (λ (w : State × Answer). (w.0, told ++ w.1 ∷ [])) e
    ∙ ap (λ (r : State × List Answer). ((m.apply o r.0).0, r.1 ++ (m.apply o r.0).1 ∷ [])) p
    ∙ sym (replay_joins m (take i ops) (o ∷ []) s)
    ∙ ap (λ x. replay m (take i ops ++ x ∷ []) s) at
    ∙ ap (λ os. replay m os s) (sym (take_more ops i o l))
