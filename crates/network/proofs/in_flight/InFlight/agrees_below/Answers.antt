use Rattle.std.proofs.Common.{◌∙◌, sym}
use Rattle.std.specs.Option.{option_eq}
use Rattle.network.specs.contracts.flights.FlightPartialEq.TheImpl as flight
use Rattle.network.proofs.Agreement.{agree_not}
use Rattle.network.proofs.in_flight.InFlight.agrees_below.Goals as goal

pub returns-then-not-is_same : goal.returns-then-not-is_same
returns-then-not-is_same c =
    sym (agree_not flight.eq-value.it c.args.self.now c.args.other.now c.loop-number.number c.args.count c.loop-number-test.true
    ((λ i. option_eq flight.eq-value.it (sym c.get.ensures i) (sym c.get-in-loop-number.ensures i)) ∙ sym c.is_same.ensures ∙ c.if-not-is_same.true))
