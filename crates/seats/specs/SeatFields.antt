-- A seat by its fields.
use Rattle.seats.specs.Seats.{Seat}
use Rattle.seats.specs.declared.seat.Seat.TheInside.{Inside}

-- what contracts see of a seat with these fields
abbrev pub seat_of : Inside → Seat
seat_of s = record {
  store = s.store;
  client = s.client;
  is_spent = s.is_spent;
  log = s.log.items;
  passes = s.passes.items;
  seen = s.seen.items;
}
