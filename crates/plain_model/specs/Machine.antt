-- A plain machine is a sequential specification: a state that starts empty, and what each operation makes of it and answers.
use Rattle.std.specs.Prelude.{◌≡◌, Bool, true, List, [], ◌∷◌, ◌++◌, Ok, Err, Result}
use Rattle.keys.specs.declared.refusal.Refusal.{Refusal}
use Rattle.keys.specs.declared.refusal.Refusal.TheVariants.{NoMemory}

pub record Machine (State Op Answer Item : Type 0) : Type 0 where
  pub empty : State
  pub apply : Op → State → State × Answer
  -- the items that a listing of the state shows
  pub listed : State → List Item

-- The operations of a list in their order, from a state: the state that they end in and their answers.
abbrev pub replay : {State Op Answer Item : Type 0} → Machine State Op Answer Item → List Op → State → State × List Answer
replay m [] s = (s, [])
replay m (o ∷ os) s = ((replay m os (m.apply o s).0).0, (m.apply o s).1 ∷ (replay m os (m.apply o s).0).1)

module _ {State Op Answer Item : Type 0} (m : Machine State Op Answer Item) where
  -- a replay of two lists joined is one replay after the other
  abbrev pub Joins : Type 0
  Joins = (xs ys : List Op) (s : State) →
      replay m (xs ++ ys) s ≡ ((replay m ys (replay m xs s).0).0, (replay m xs s).1 ++ (replay m ys (replay m xs s).0).1)

  -- What a call that applies an operation did to the state and told: what the machine says, or, where memory is lacking, nothing.
  -- Memory can be lacking only for an operation that may make the state grow.
  abbrev pub Applied : (Op → Bool) → Op → State → State → Result Answer Refusal → Type 0
  Applied grows o was now (Ok a) = (now, a) ≡ m.apply o was
  Applied grows o was now (Err e) = (now ≡ was) × (e ≡ NoMemory) × (grows o ≡ true)
