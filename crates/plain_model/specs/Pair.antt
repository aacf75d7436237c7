-- The pair of two plain machines: both side by side, each operation going to its side.
use Rattle.std.specs.Prelude.{Bool, List, ◌++◌, map}
use Rattle.plain_model.specs.declared.side.Side.{Side}
use Rattle.plain_model.specs.declared.side.Side.TheVariants.{First, Second}
use Rattle.plain_model.specs.Machine.{Machine}

-- an operation makes the pair grow where it makes its side grow
abbrev pub grows : {O P : Type 0} → (O → Bool) → (P → Bool) → Side O P → Bool
grows first second (First o) = first o
grows first second (Second p) = second p

module _ {S T O P A B I J : Type 0} (m : Machine S O A I) (n : Machine T P B J) where
  abbrev pub apply : Side O P → S × T → (S × T) × Side A B
  apply (First o) s = (((m.apply o s.0).0, s.1), First (m.apply o s.0).1)
  apply (Second p) s = ((s.0, (n.apply p s.1).0), Second (n.apply p s.1).1)

  -- the first side's items, then the second's
  abbrev pub listed : S × T → List (Side I J)
  listed s = map First (m.listed s.0) ++ map Second (n.listed s.1)

  abbrev pub pair : Machine (S × T) (Side O P) (Side A B) (Side I J)
  pair = record { empty = (m.empty, n.empty); apply = apply; listed = listed }
