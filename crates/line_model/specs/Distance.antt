-- How many of its own touches a waiting station still needs while no other station is touched.
use Rattle.std.specs.Prelude.{ℕ, ◌+◌, ◌-◌, Bool, true, false, cond, List, Some, None, Option, ◌==◌}
use Rattle.line_model.specs.declared.node.Node.{Node}
use Rattle.line_model.specs.declared.seat.Seat.{Seat}
use Rattle.line_model.specs.declared.seat.Seat.TheVariants.{Free, E1, E2, E3, E4, E5, E6, D1, D2, D3, D4, D5, Ready}
use Rattle.line_model.specs.Nodes.{is_node, next_of}

-- a put from E1: whether Tail lags behind the last node
abbrev pub from_e1 : Bool → ℕ
from_e1 true = 9
from_e1 false = 5

-- a take from D1: whether Tail lags, and whether Head is Tail
abbrev pub from_d1 : Bool → Bool → ℕ
from_d1 true true = 8
from_d1 false true = 3
from_d1 true false = 4
from_d1 false false = 4

-- a put at E3 whose end is Tail: whether Tail lags, n, and end's next
abbrev pub from_e3 : Bool → Option ℕ → Option ℕ → ℕ
from_e3 lag None x = cond (is_node x) (2 + from_e1 lag) 3
from_e3 lag (Some b) x = 7

-- a take at D3: what it needs from D1, and whether first is end, first's next is a node, Tail is end, Head is first
abbrev pub from_d3 : ℕ → Bool → Bool → Bool → Bool → ℕ
from_d3 f true true t h = cond t 6 (2 + f)
from_d3 f true false t h = 1
from_d3 f false n t h = cond h 2 (2 + f)

module _ {E : Type 0} (ns : List (Node E)) (head tail : ℕ) where
  -- Tail lags
  abbrev pub lags : Bool
  lags = is_node (next_of ns tail)

  abbrev pub needs : Seat E → ℕ
  needs Free = 0
  needs (E1 e own end n) = from_e1 lags
  needs (E2 e own end n) = cond (tail == end) (from_e1 lags - 1) (2 + from_e1 lags)
  needs (E3 e own end n) = cond (tail == end) (from_e3 lags n (next_of ns end)) (1 + from_e1 lags)
  needs (E4 e own end) = cond (is_node (next_of ns end)) (1 + from_e1 lags) 2
  needs (E5 e own end n) = cond (tail == end) 6 (1 + from_e1 lags)
  needs (E6 e own end) = 1
  needs (D1 first end n) = from_d1 lags (head == tail)
  needs (D2 first end n) = cond (head == first) (from_d1 lags (head == tail) - 1) (3 + from_d1 lags (head == tail))
  needs (D3 first end n) = from_d3 (from_d1 lags (head == tail)) (first == end) (is_node (next_of ns first)) (tail == end) (head == first)
  needs (D4 first end n) = cond (tail == end) 5 (1 + from_d1 lags (head == tail))
  needs (D5 first end n) = cond (head == first) 1 (1 + from_d1 lags (head == tail))
  needs (Ready o a) = 0
