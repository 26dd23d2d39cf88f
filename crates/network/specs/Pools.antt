-- The network as a bag of numbered messages, and what each call makes of it.
use Rattle.std.specs.Prelude.{ℕ, ◌≡◌, ◌<◌, ◌≤◌, ◌+◌, ◌-◌, Some}
use Rattle.std.specs.FinMap as finite
use Rattle.network.specs.Flights.{Flight, Flights, copy_limit, with_copies, one_less, one_more}
use Rattle.network.specs.declared.messages.Message.{Message}

-- the network: how many messages were ever sent, how many may be, and the flights that have a copy
pub record Pool : Type 0 where
  pub sent : ℕ
  pub limit : ℕ
  pub flights : Flights

-- each flight was sent and has 1 to 1,000 copies, and no more were sent than may be
pub record IsBag (pool : Pool) : Type 0 where
  pub within : pool.sent ≤ pool.limit
  pub given : (number : ℕ) (flight : Flight) → finite.get pool.flights number ≡ Some flight
      → number < pool.sent
  pub least : (number : ℕ) (flight : Flight) → finite.get pool.flights number ≡ Some flight
      → 1 ≤ flight.copies
  pub most : (number : ℕ) (flight : Flight) → finite.get pool.flights number ≡ Some flight
      → flight.copies ≤ copy_limit

-- the network before the first message
abbrev pub silent_pool : ℕ → Pool
silent_pool limit = record { sent = 0; limit = limit; flights = finite.empty }

-- a message that is sent has the next number, and one copy
abbrev pub with_sent : Pool → Message → Pool
with_sent pool message =
    record pool { sent = pool.sent + 1; flights = with_copies pool.flights pool.sent message 1 }

-- the message that was sent last is taken back, and its number with it
abbrev pub without_last : Pool → Pool
without_last pool =
    record pool { sent = pool.sent - 1; flights = finite.remove pool.flights (pool.sent - 1) }

-- a copy of a flight is delivered or lost
abbrev pub with_one_less : Pool → ℕ → Pool
with_one_less pool number =
    record pool { flights = one_less pool.flights number (finite.get pool.flights number) }

-- a flight is repeated
abbrev pub with_one_more : Pool → ℕ → Pool
with_one_more pool number =
    record pool { flights = one_more pool.flights number (finite.get pool.flights number) }
