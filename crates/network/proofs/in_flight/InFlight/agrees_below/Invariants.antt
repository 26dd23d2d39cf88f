use Rattle.std.proofs.Common.{◌≡◌, true}
use Rattle.network.specs.Equality.{agree_below}
use Rattle.network.specs.contracts.flights.FlightPartialEq.TheImpl as flight
use Rattle.network.proofs.in_flight.InFlight.agrees_below.Given as goal

abbrev pub invariant-loop-number : goal.invariant-loop-number
invariant-loop-number l = agree_below flight.eq-value.it l.self l.other l.number ≡ true
