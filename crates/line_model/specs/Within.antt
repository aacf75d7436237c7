-- Every node that a line's code can reach is one of its node table.
use Rattle.std.specs.Prelude.{◌≡◌, ℕ, ◌<◌, ◌≤◌, Bool, true, ◌&&◌, List, length, Some, None, Option, nat_lt, slice_index_or}
use Rattle.line_model.specs.declared.seat.Seat.{Seat}
use Rattle.line_model.specs.declared.seat.Seat.TheVariants.{Free, E1, E2, E3, E4, E5, E6, D1, D2, D3, D4, D5, Ready}
use Rattle.line_model.specs.Nodes.{next_of}
use Rattle.line_model.specs.Line.{LineModel}

-- none, or a node below k
abbrev pub in_next : ℕ → Option ℕ → Bool
in_next k None = true
in_next k (Some b) = nat_lt b k

module _ {E : Type 0} where
  -- the own node and the registers that a later touch can read are below k
  abbrev pub in_seat : ℕ → Seat E → Bool
  in_seat k Free = true
  in_seat k (E1 e own end n) = nat_lt own k
  in_seat k (E2 e own end n) = nat_lt own k && nat_lt end k
  in_seat k (E3 e own end n) = nat_lt own k && (nat_lt end k && in_next k n)
  in_seat k (E4 e own end) = nat_lt own k && nat_lt end k
  in_seat k (E5 e own end n) = nat_lt own k && (nat_lt end k && nat_lt n k)
  in_seat k (E6 e own end) = nat_lt own k && nat_lt end k
  in_seat k (D1 first end n) = true
  in_seat k (D2 first end n) = nat_lt first k
  in_seat k (D3 first end n) = nat_lt first k && nat_lt end k
  in_seat k (D4 first end n) = nat_lt end k && nat_lt n k
  in_seat k (D5 first end n) = nat_lt first k && nat_lt n k
  in_seat k (Ready o a) = true

  abbrev pub seat_at : List (Seat E) → ℕ → Seat E
  seat_at ss i = slice_index_or ss i Free

  -- What holds of every line, sound or not: 1 to 512 nodes besides the dummy, 1 to 16 stations, and each node that is
  -- named is one of the node table.
  pub record IsWithin (m : LineModel E) : Type 0 where
    pub some_nodes : 2 ≤ length m.nodes
    pub few_nodes : length m.nodes ≤ 513
    pub some_seats : 1 ≤ length m.seats
    pub few_seats : length m.seats ≤ 16
    pub fits : m.taken ≤ length m.nodes
    pub heads : m.head < length m.nodes
    pub tails : m.tail < length m.nodes
    pub nexts : (a : ℕ) → in_next (length m.nodes) (next_of m.nodes a) ≡ true
    pub sits : (i : ℕ) → in_seat (length m.nodes) (seat_at m.seats i) ≡ true
