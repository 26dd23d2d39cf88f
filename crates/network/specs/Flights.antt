-- Flights: the messages in flight, a finite map from numbers to a message and the count of its
-- copies.
use Rattle.std.specs.Prelude.{ℕ, ◌≡◌, ◌-◌, ◌+◌, ◌==◌, Option, None, Some, option_map, if◌then◌else◌}
use Rattle.std.specs.Option.{option_map_or}
use Rattle.std.specs.Ordering.{nat_cmp}
use Rattle.std.specs.FinMap as finite
use Rattle.network.specs.declared.messages.Message.{Message}
-- a message with the count of its copies
pub use Rattle.network.specs.declared.flights.Flight.{Flight}

-- the flights that have a copy, by number
abbrev pub Flights : Type 0
Flights = finite.FinMap nat_cmp Flight

-- how many copies a flight may have
abbrev pub copy_limit : ℕ
copy_limit = 1000

-- how many copies a flight has
abbrev pub copies_of : Flights → ℕ → ℕ
copies_of flights number = option_map_or (λ flight. flight.copies) (finite.get flights number) 0

-- the message of a flight that has a copy
abbrev pub message_of : Flights → ℕ → Option Message
message_of flights number = option_map (λ flight. flight.message) (finite.get flights number)

-- the flight has a copy, and that is its message
abbrev pub IsMessageOf : Flights → ℕ → Message → Type 0
IsMessageOf flights number message = message_of flights number ≡ Some message

-- the number names no flight that has a copy
abbrev pub IsGone : Flights → ℕ → Type 0
IsGone flights number = finite.get flights number ≡ None

-- the flights, with that message in so many copies under the number
abbrev pub with_copies : Flights → ℕ → Message → ℕ → Flights
with_copies flights number message copies =
    finite.insert flights number (record { message = message; copies = copies })

-- one copy less of the flight: with its last copy the flight goes
abbrev pub one_less : Flights → ℕ → Option Flight → Flights
one_less flights number None = flights
one_less flights number (Some flight) = if flight.copies == 1 then finite.remove flights number
    else with_copies flights number flight.message (flight.copies - 1)

-- one copy more of the flight
abbrev pub one_more : Flights → ℕ → Option Flight → Flights
one_more flights number None = flights
one_more flights number (Some flight) =
    with_copies flights number flight.message (flight.copies + 1)
