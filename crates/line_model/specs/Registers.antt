-- The registers of a station, and what each touch makes of them.
use Rattle.std.specs.Prelude.{ℕ, Some, None, Option}
use Rattle.line_model.specs.declared.seat.Seat.{Seat}
use Rattle.line_model.specs.declared.seat.Seat.TheVariants.{Free, E1, E2, E3, E4, E5, E6, D1, D2, D3, D4, D5, Ready}
use Rattle.line_model.specs.Nodes.{next_of}
use Rattle.line_model.specs.Line.{LineModel}

-- None where unset. What n was read as may itself be none.
pub record Registers : Type 0 where
  pub first : Option ℕ
  pub end : Option ℕ
  pub n : Option (Option ℕ)

abbrev pub unset : Registers
unset = record { first = None; end = None; n = None }

module _ {E : Type 0} where
  -- the registers that a seat holds; a station that does not wait has none
  abbrev pub registers : Seat E → Registers
  registers Free = unset
  registers (E1 e own end n) = record { first = None; end = end; n = n }
  registers (E2 e own end n) = record { first = None; end = Some end; n = n }
  registers (E3 e own end n) = record { first = None; end = Some end; n = Some n }
  registers (E4 e own end) = record { first = None; end = Some end; n = Some None }
  registers (E5 e own end n) = record { first = None; end = Some end; n = Some (Some n) }
  registers (E6 e own end) = record { first = None; end = Some end; n = Some None }
  registers (D1 first end n) = record { first = first; end = end; n = n }
  registers (D2 first end n) = record { first = Some first; end = end; n = n }
  registers (D3 first end n) = record { first = Some first; end = Some end; n = n }
  registers (D4 first end n) = record { first = Some first; end = Some end; n = Some (Some n) }
  registers (D5 first end n) = record { first = Some first; end = Some end; n = Some (Some n) }
  registers (Ready o a) = unset

  -- what a touch at a seat makes of the registers r: it sets one of them, or none
  abbrev pub row : LineModel E → Registers → Seat E → Registers
  row m r Free = r
  row m r (E1 e own end n) = record { first = r.first; end = Some m.tail; n = r.n }
  row m r (E2 e own end n) = record { first = r.first; end = r.end; n = Some (next_of m.nodes end) }
  row m r (E3 e own end n) = r
  row m r (E4 e own end) = r
  row m r (E5 e own end n) = r
  row m r (E6 e own end) = r
  row m r (D1 first end n) = record { first = Some m.head; end = r.end; n = r.n }
  row m r (D2 first end n) = record { first = r.first; end = Some m.tail; n = r.n }
  row m r (D3 first end n) = record { first = r.first; end = r.end; n = Some (next_of m.nodes first) }
  row m r (D4 first end n) = r
  row m r (D5 first end n) = r
  row m r (Ready o a) = r
