use Rattle.std.proofs.Common.{sym, ◌∙◌}
use Rattle.network.proofs.Writing.{get-flights_in}
use Rattle.network.proofs.in_flight.InFlight.get.Goals as goal

pub returns : goal.returns
returns c = rw (← c.self.view_is) (c.get.ensures.value ∙ sym (get-flights_in c.self.inside.by_number c.args.number))
