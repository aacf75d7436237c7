-- What a seat says of its station: what it is doing, and the own node of a put.
use Rattle.std.specs.Prelude.{ℕ, ◌-◌, Bool, true, false, cond, List, Some, None, Option, nat_le, slice_index_or}
use Rattle.plain_model.specs.declared.line_op.LineOp.{LineOp}
use Rattle.plain_model.specs.declared.line_op.LineOp.TheVariants.{Put, Take}
use Rattle.plain_model.specs.declared.line_op.LineAnswer.{LineAnswer}
use Rattle.plain_model.specs.declared.line_op.LineAnswer.TheVariants as answer
use Rattle.boards.specs.declared.station.Station.{Station}
use Rattle.boards.specs.declared.station.Station.TheVariants as station
use Rattle.boards.specs.Board.{is_free}
use Rattle.line_model.specs.declared.seat.Seat.{Seat}
use Rattle.line_model.specs.declared.seat.Seat.TheVariants.{Free, E1, E2, E3, E4, E5, E6, D1, D2, D3, D4, D5, Ready}

module _ {E : Type 0} where
  -- stations are numbered from 1
  abbrev pub seat_of : List (Seat E) → ℕ → Seat E
  seat_of ss p = cond (nat_le 1 p) (slice_index_or ss (p - 1) Free) Free

  -- a put is counted from E6 on
  abbrev pub station_of : Seat E → Station (LineOp E) (LineAnswer E)
  station_of Free = station.Free
  station_of (E1 e own end n) = station.Uncounted (Put e)
  station_of (E2 e own end n) = station.Uncounted (Put e)
  station_of (E3 e own end n) = station.Uncounted (Put e)
  station_of (E4 e own end) = station.Uncounted (Put e)
  station_of (E5 e own end n) = station.Uncounted (Put e)
  station_of (E6 e own end) = station.Counted (Put e) answer.Put
  station_of (D1 first end n) = station.Uncounted Take
  station_of (D2 first end n) = station.Uncounted Take
  station_of (D3 first end n) = station.Uncounted Take
  station_of (D4 first end n) = station.Uncounted Take
  station_of (D5 first end n) = station.Uncounted Take
  station_of (Ready o a) = station.Ready o a

  abbrev pub is_free_seat : Seat E → Bool
  is_free_seat s = is_free (station_of s)

  abbrev pub is_ready_station : Station (LineOp E) (LineAnswer E) → Bool
  is_ready_station station.Free = false
  is_ready_station (station.Uncounted o) = false
  is_ready_station (station.Counted o a) = false
  is_ready_station (station.Ready o a) = true

  abbrev pub is_ready_seat : Seat E → Bool
  is_ready_seat s = is_ready_station (station_of s)

  -- the own node of a put that is not counted, which no other node leads to
  abbrev pub own_of : Seat E → Option ℕ
  own_of Free = None
  own_of (E1 e own end n) = Some own
  own_of (E2 e own end n) = Some own
  own_of (E3 e own end n) = Some own
  own_of (E4 e own end) = Some own
  own_of (E5 e own end n) = Some own
  own_of (E6 e own end) = None
  own_of (D1 first end n) = None
  own_of (D2 first end n) = None
  own_of (D3 first end n) = None
  own_of (D4 first end n) = None
  own_of (D5 first end n) = None
  own_of (Ready o a) = None
