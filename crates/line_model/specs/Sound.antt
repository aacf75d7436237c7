-- The invariant: nodes in use have ranks along a chain, and registers name nodes by what is known of their ranks.
use Rattle.std.specs.Prelude.{◌≡◌, ℕ, zero, suc, ◌+◌, ◌<◌, ◌≤◌, List, length, Some, None, Option}
use Rattle.line_model.specs.declared.node.Node.{Node}
use Rattle.line_model.specs.declared.seat.Seat.{Seat}
use Rattle.line_model.specs.declared.seat.Seat.TheVariants.{Free, E1, E2, E3, E4, E5, E6, D1, D2, D3, D4, D5, Ready}
use Rattle.line_model.specs.Nodes.{next_of, element_of}
use Rattle.line_model.specs.Seats.{seat_of, own_of}
use Rattle.line_model.specs.Line.{LineModel}

-- what a node's next says of its rank r
abbrev pub Linked : (ℕ → ℕ) → ℕ → ℕ → Option ℕ → Type 0
Linked rank last r None = r ≡ last
Linked rank last r (Some b) = rank b ≡ suc r

abbrev pub one_if : ℕ → ℕ
one_if zero = 0
one_if (suc r) = 1

-- how many nodes below n have a rank
abbrev pub ranked : (ℕ → ℕ) → ℕ → ℕ
ranked rank zero = 0
ranked rank (suc n) = one_if (rank n) + ranked rank n

-- on the chain, and not after the node of rank r
pub record UpTo (rank : ℕ → ℕ) (r a : ℕ) : Type 0 where
  pub on : 1 ≤ rank a
  pub upto : rank a ≤ r

module _ {E : Type 0} where
  -- The chain runs from the dummy that the line was made with, of rank 1, to the node of rank `last`. A node that is
  -- not on it has rank 0. Tail's node is the last or the one before it, and Head's is not after Tail's.
  pub record Chain (ns : List (Node E)) (taken head tail : ℕ) (rank : ℕ → ℕ) (last : ℕ) : Type 0 where
    pub fits : taken ≤ length ns
    pub below : (a : ℕ) → 1 ≤ rank a → a < taken
    pub most : (a : ℕ) → rank a ≤ last
    pub only : (a b : ℕ) → 1 ≤ rank a → rank a ≡ rank b → a ≡ b
    pub linked : (a : ℕ) → 1 ≤ rank a → Linked rank last (rank a) (next_of ns a)
    pub all : ranked rank taken ≡ last
    pub head_on : 1 ≤ rank head
    pub head_tail : rank head ≤ rank tail
    pub tail_last : last ≤ suc (rank tail)

  -- the own node of a put that is not counted
  pub record Own (ns : List (Node E)) (taken : ℕ) (rank : ℕ → ℕ) (e : E) (own : ℕ) : Type 0 where
    pub off : rank own ≡ 0
    pub below : own < taken
    pub next : next_of ns own ≡ None
    pub element : element_of ns own ≡ Some e

  -- what was read of a node's next cell: a node stays there, none may have been replaced since
  abbrev pub Read : List (Node E) → ℕ → Option ℕ → Type 0
  Read ns a None = Unit {0}
  Read ns a (Some b) = next_of ns a ≡ Some b

  -- what holds of a seat, where h and t are the ranks of Head's and Tail's nodes
  abbrev pub Seated : List (Node E) → ℕ → (ℕ → ℕ) → ℕ → ℕ → Seat E → Type 0
  Seated ns taken rank h t Free = Unit {0}
  Seated ns taken rank h t (E1 e own end n) = Own ns taken rank e own
  Seated ns taken rank h t (E2 e own end n) = Own ns taken rank e own × UpTo rank t end
  Seated ns taken rank h t (E3 e own end n) = Own ns taken rank e own × UpTo rank t end × Read ns end n
  Seated ns taken rank h t (E4 e own end) = Own ns taken rank e own × UpTo rank t end
  Seated ns taken rank h t (E5 e own end n) = Own ns taken rank e own × UpTo rank t end × (next_of ns end ≡ Some n)
  Seated ns taken rank h t (E6 e own end) = UpTo rank t end × (next_of ns end ≡ Some own)
  Seated ns taken rank h t (D1 first end n) = Unit {0}
  Seated ns taken rank h t (D2 first end n) = UpTo rank h first
  Seated ns taken rank h t (D3 first end n) = UpTo rank h first × UpTo rank t end × (rank first ≤ rank end)
  Seated ns taken rank h t (D4 first end n) = UpTo rank t end × (next_of ns end ≡ Some n)
  Seated ns taken rank h t (D5 first end n) = UpTo rank h first × (next_of ns first ≡ Some n) × (rank first < t)
  Seated ns taken rank h t (Ready o a) = Unit {0}

  pub record Sound (m : LineModel E) : Type 0 where
    pub some_seats : 1 ≤ length m.seats
    pub few_seats : length m.seats ≤ 16
    pub rank : ℕ → ℕ
    pub last : ℕ
    pub chain : Chain m.nodes m.taken m.head m.tail rank last
    pub seated : (p : ℕ) → Seated m.nodes m.taken rank (rank m.head) (rank m.tail) (seat_of m.seats p)
    -- no two stations have the same own node
    pub apart : (p q a : ℕ) → own_of (seat_of m.seats p) ≡ Some a → own_of (seat_of m.seats q) ≡ Some a → p ≡ q
