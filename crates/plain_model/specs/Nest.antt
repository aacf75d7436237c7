-- The plain nest: an ascending list of keys without repetition.
use Rattle.std.specs.Prelude.{◌≡◌, Bool, true, false, cond, not, ◌&&◌, ◌||◌, List, [], ◌∷◌}
use Rattle.plain_model.specs.declared.nest_op.NestOp.{NestOp}
use Rattle.plain_model.specs.declared.nest_op.NestOp.TheVariants as op
use Rattle.plain_model.specs.declared.nest_op.NestAnswer.{NestAnswer}
use Rattle.plain_model.specs.declared.nest_op.NestAnswer.TheVariants.{Added, There, Dropped, Missing, Yes, No}
use Rattle.plain_model.specs.Machine.{Machine}

-- the key that an operation is about
abbrev pub key_of : {K : Type 0} → NestOp K → K
key_of (op.Add k) = k
key_of (op.Drop k) = k
key_of (op.Find k) = k

module _ {K : Type 0} (before : K → K → Bool) where
  -- neither key is before the other
  abbrev pub same : K → K → Bool
  same k x = not (before k x) && not (before x k)

  abbrev pub has : K → List K → Bool
  has k [] = false
  has k (x ∷ xs) = same k x || has k xs

  -- k in front of the first key that is not before it
  abbrev pub insert : K → List K → List K
  insert k [] = k ∷ []
  insert k (x ∷ xs) = cond (before x k) (x ∷ insert k xs) (k ∷ x ∷ xs)

  abbrev pub remove : K → List K → List K
  remove k [] = []
  remove k (x ∷ xs) = cond (same k x) xs (x ∷ remove k xs)

  abbrev pub apply : NestOp K → List K → List K × NestAnswer
  apply (op.Add k) xs = cond (has k xs) (xs, There) (insert k xs, Added)
  apply (op.Drop k) xs = cond (has k xs) (remove k xs, Dropped) (xs, Missing)
  apply (op.Find k) xs = (xs, cond (has k xs) Yes No)

  -- only an add makes the nest grow
  abbrev pub grows : NestOp K → Bool
  grows (op.Add k) = true
  grows (op.Drop k) = false
  grows (op.Find k) = false

  abbrev pub nest : Machine (List K) (NestOp K) NestAnswer K
  nest = record { empty = []; apply = apply; listed = λ xs. xs }

  -- a key is before the first of a list
  abbrev pub Leads : K → List K → Type 0
  Leads x [] = Unit {0}
  Leads x (y ∷ ys) = before x y ≡ true

  -- every key is before the one after it
  abbrev pub Ascending : List K → Type 0
  Ascending [] = Unit {0}
  Ascending (x ∷ xs) = Leads x xs × Ascending xs
