-- Equality of pools: as many messages sent, the same limit, and the same flight of each number that
-- was given.
use Rattle.std.specs.Prelude.{ℕ, zero, suc, ◌&&◌, ◌==◌, Bool, true}
use Rattle.std.specs.Option.{option_eq}
use Rattle.std.specs.FinMap as finite
use Rattle.network.specs.Flights.{Flight, Flights}
use Rattle.network.specs.Pools.{Pool}

module _ (same : Flight → Flight → Bool) where
  -- each number below n names the same flight, or none
  abbrev pub agree_below : Flights → Flights → ℕ → Bool
  agree_below some other zero = true
  agree_below some other (suc n) =
      option_eq same (finite.get some n) (finite.get other n) && agree_below some other n

  -- as many messages were sent, the limit is the same, and each number names the same flight
  abbrev pub same_pools : Pool → Pool → Bool
  same_pools some other = some.sent == other.sent
      && (some.limit == other.limit && agree_below some.flights other.flights some.sent)
