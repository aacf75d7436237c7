-- The model of a line, and its calls as functions: begin, the touch table, release.
use Rattle.std.specs.Prelude.{ℕ, ◌+◌, ◌-◌, Bool, true, false, cond, ◌&&◌, List, length, Some, None, Option, ◌==◌, nat_le, nat_lt, slice_set}
use Rattle.plain_model.specs.declared.line_op.LineOp.{LineOp}
use Rattle.plain_model.specs.declared.line_op.LineOp.TheVariants.{Put, Take}
use Rattle.plain_model.specs.declared.line_op.LineAnswer.{LineAnswer}
use Rattle.plain_model.specs.declared.line_op.LineAnswer.TheVariants as answer
use Rattle.plain_model.specs.Line.{taken as answered}
use Rattle.boards.specs.declared.outcome.Outcome.{Outcome}
use Rattle.boards.specs.declared.outcome.Outcome.TheVariants as told
use Rattle.boards.specs.Board.{Steps}
use Rattle.line_model.specs.declared.node.Node.{Node}
use Rattle.line_model.specs.declared.seat.Seat.{Seat}
use Rattle.line_model.specs.declared.seat.Seat.TheVariants.{Free, E1, E2, E3, E4, E5, E6, D1, D2, D3, D4, D5, Ready}
use Rattle.line_model.specs.Nodes.{next_of, element_of, link}
use Rattle.line_model.specs.Seats.{seat_of, is_free_seat, is_ready_seat}

-- The nodes below `taken` are in use, the dummy first; head and tail are the cells Head and Tail.
pub record LineModel (E : Type 0) : Type 0 where
  pub nodes : List (Node E)
  pub taken : ℕ
  pub head : ℕ
  pub tail : ℕ
  pub seats : List (Seat E)

-- what a touch makes of the model, and what it tells
abbrev pub After : Type 0 → Type 0
After E = LineModel E × (Outcome × Option (LineAnswer E))

module _ {E : Type 0} where
  -- station p's seat is s
  abbrev pub sit : LineModel E → ℕ → Seat E → LineModel E
  sit m p s = record { nodes = m.nodes; taken = m.taken; head = m.head; tail = m.tail; seats = slice_set m.seats (p - 1) s }

  -- Tail's compare-and-set: b in place of a
  abbrev pub tail_set : LineModel E → ℕ → ℕ → LineModel E
  tail_set m a b = record { nodes = m.nodes; taken = m.taken; head = m.head; tail = cond (m.tail == a) b m.tail; seats = m.seats }

  -- Head's compare-and-set
  abbrev pub head_set : LineModel E → ℕ → ℕ → LineModel E
  head_set m a b = record { nodes = m.nodes; taken = m.taken; head = cond (m.head == a) b m.head; tail = m.tail; seats = m.seats }

  abbrev pub with_head : LineModel E → ℕ → LineModel E
  with_head m b = record { nodes = m.nodes; taken = m.taken; head = b; tail = m.tail; seats = m.seats }

  -- The compare-and-set of node a's next cell, which holds x: b in place of none.
  abbrev pub next_set : LineModel E → ℕ → ℕ → Option ℕ → LineModel E
  next_set m a b None = record { nodes = link m.nodes a b; taken = m.taken; head = m.head; tail = m.tail; seats = m.seats }
  next_set m a b (Some c) = m

  abbrev pub going : LineModel E → ℕ → Seat E → After E
  going m p s = (sit m p s, (told.Going, None))

  -- a touch that counts and is ready at once
  abbrev pub answers : LineModel E → ℕ → LineOp E → LineAnswer E → After E
  answers m p o a = (sit m p (Ready o a), (told.CountedReady, Some a))

  -- E3, where the test tells whether Tail is end
  abbrev pub after_e3 : E → ℕ → ℕ → Option ℕ → Bool → Seat E
  after_e3 e own end n false = E1 e own (Some end) (Some n)
  after_e3 e own end None true = E4 e own end
  after_e3 e own end (Some b) true = E5 e own end b

  -- E4, where end's next is x
  abbrev pub after_e4 : LineModel E → ℕ → E → ℕ → ℕ → Option ℕ → After E
  after_e4 m p e own end None = (sit (next_set m end own None) p (E6 e own end), (told.Counted, Some answer.Put))
  after_e4 m p e own end (Some b) = going m p (E1 e own (Some end) (Some None))

  -- D3, where the test tells whether first is end, and first's next is n. That first is not end and its next is none
  -- is ruled out by the invariant; the take would begin anew.
  abbrev pub after_d3 : LineModel E → ℕ → ℕ → ℕ → Bool → Option ℕ → After E
  after_d3 m p first end true None = answers m p Take answer.Empty
  after_d3 m p first end true (Some b) = going m p (D4 first end b)
  after_d3 m p first end false None = going m p (D1 (Some first) (Some end) (Some None))
  after_d3 m p first end false (Some b) = going m p (D5 first end b)

  -- D5, where the test tells whether Head is first
  abbrev pub after_d5 : LineModel E → ℕ → ℕ → ℕ → ℕ → Bool → After E
  after_d5 m p first end n true = answers (with_head m n) p Take (answered (element_of m.nodes n))
  after_d5 m p first end n false = going m p (D1 (Some first) (Some end) (Some (Some n)))

  -- the touch table, by station p's seat
  abbrev pub act : LineModel E → ℕ → Seat E → After E
  act m p Free = (m, (told.Idle, None))
  act m p (E1 e own end n) = going m p (E2 e own m.tail n)
  act m p (E2 e own end n) = going m p (E3 e own end (next_of m.nodes end))
  act m p (E3 e own end n) = going m p (after_e3 e own end n (m.tail == end))
  act m p (E4 e own end) = after_e4 m p e own end (next_of m.nodes end)
  act m p (E5 e own end n) = going (tail_set m end n) p (E1 e own (Some end) (Some (Some n)))
  act m p (E6 e own end) = (sit (tail_set m end own) p (Ready (Put e) answer.Put), (told.Ready, Some answer.Put))
  act m p (D1 first end n) = going m p (D2 m.head end n)
  act m p (D2 first end n) = going m p (D3 first m.tail n)
  act m p (D3 first end n) = after_d3 m p first end (first == end) (next_of m.nodes first)
  act m p (D4 first end n) = going (tail_set m end n) p (D1 (Some first) (Some end) (Some (Some n)))
  act m p (D5 first end n) = after_d5 m p first end n (m.head == first)
  act m p (Ready o a) = (m, (told.Idle, None))

  abbrev pub touched : LineModel E → ℕ → After E
  touched m p = act m p (seat_of m.seats p)

  -- a put needs an unused node
  abbrev pub has_space : LineModel E → LineOp E → Bool
  has_space m (Put e) = nat_lt m.taken (length m.nodes)
  has_space m Take = true

  abbrev pub can_begin : LineModel E → ℕ → LineOp E → Bool
  can_begin m p o = (nat_le 1 p && nat_le p (length m.seats)) && (is_free_seat (seat_of m.seats p) && has_space m o)

  -- the next unused node is taken for an element; its next is none
  abbrev pub take_node : LineModel E → E → LineModel E
  take_node m e = record {
    nodes = slice_set m.nodes m.taken (record { element = e; next = None });
    taken = m.taken + 1;
    head = m.head;
    tail = m.tail;
    seats = m.seats;
  }

  -- a put takes a node; every register is unset
  abbrev pub started : LineModel E → ℕ → LineOp E → LineModel E
  started m p (Put e) = sit (take_node m e) p (E1 e m.taken None None)
  started m p Take = sit m p (D1 None None None)

  abbrev pub begun : LineModel E → ℕ → LineOp E → LineModel E × Bool
  begun m p o = (cond (can_begin m p o) (started m p o) m, can_begin m p o)

  abbrev pub released : LineModel E → ℕ → LineModel E
  released m p = cond (is_ready_seat (seat_of m.seats p)) (sit m p Free) m

  abbrev pub steps : Steps (LineModel E) (LineOp E) (LineAnswer E)
  steps = record { begin = begun; touch = touched; release = released }
