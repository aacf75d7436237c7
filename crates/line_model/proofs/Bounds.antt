-- Each write of a line's code keeps what holds of every line.
use Rattle.std.proofs.Common.{◌≡◌, ℕ, ◌<◌, true, length, set, None, refl, sym, subst, arith, length-set}
use Rattle.line_model.specs.declared.node.Node.{Node}
use Rattle.line_model.specs.declared.seat.Seat.{Seat}
use Rattle.line_model.specs.Nodes.{next_of}
use Rattle.line_model.specs.Within.{IsWithin, in_next, in_seat, seat_at}
use Rattle.line_model.specs.Line.{LineModel, take_node}
use Rattle.line_model.proofs.Seats.{seat_within}
use Rattle.line_model.proofs.Cells.{set_within, with_nodes}

module _ {E : Type 0} (m : LineModel E) (w : IsWithin m) where
  pub within_seat : (i : ℕ) (s : Seat E) → in_seat (length m.nodes) s ≡ true →
      IsWithin (record { nodes = m.nodes; taken = m.taken; head = m.head; tail = m.tail; seats = set m.seats i s })
  within_seat i s h =
      let n = length-set m.seats i s in
      record {
        some_nodes = w.some_nodes;
        few_nodes = w.few_nodes;
        some_seats = omega (arith, n, w.some_seats);
        few_seats = omega (arith, n, w.few_seats);
        fits = w.fits;
        heads = w.heads;
        tails = w.tails;
        nexts = w.nexts;
        sits = seat_within (length m.nodes) m.seats i s w.sits h;
      }

  pub within_node : (i : ℕ) (x : Node E) → in_next (length m.nodes) x.next ≡ true → IsWithin (with_nodes m (set m.nodes i x))
  within_node i x h =
      let e : length (set m.nodes i x) ≡ length m.nodes = length-set m.nodes i x in
      record {
        some_nodes = omega (arith, w.some_nodes);
        few_nodes = omega (arith, w.few_nodes);
        some_seats = w.some_seats;
        few_seats = w.few_seats;
        fits = omega (arith, w.fits);
        heads = omega (arith, w.heads);
        tails = omega (arith, w.tails);
        nexts = subst (λ (k : ℕ). (a : ℕ) → in_next k (next_of (set m.nodes i x) a) ≡ true) (sym e) (set_within (length m.nodes) m.nodes i x w.nexts h);
        sits = subst (λ (k : ℕ). (j : ℕ) → in_seat k (seat_at m.seats j) ≡ true) (sym e) w.sits;
      }

  pub within_take : (e : E) → m.taken < length m.nodes → IsWithin (take_node m e)
  within_take e h =
      let x : Node E = record { element = e; next = None } in
      let v = within_node m.taken x refl in
      let n : length (set m.nodes m.taken x) ≡ length m.nodes = length-set m.nodes m.taken x in
      record {
        some_nodes = v.some_nodes;
        few_nodes = v.few_nodes;
        some_seats = v.some_seats;
        few_seats = v.few_seats;
        fits = omega arith;
        heads = v.heads;
        tails = v.tails;
        nexts = v.nexts;
        sits = v.sits;
      }
