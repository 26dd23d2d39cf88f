use Rattle.std.proofs.Common.{sym, ◌∙◌}
use Rattle.network.proofs.Writing.{get-flights_in, flights_in-remove}
use Rattle.network.proofs.in_flight.InFlight.remove.Goals as goal

pub returns-clause-flight : goal.returns-clause-flight
returns-clause-flight c = rw (← c.self.view_is) (c.remove.ensures.value ∙ sym (get-flights_in c.self.inside.by_number c.args.number))

pub returns-clause-after : goal.returns-clause-after
returns-clause-after c = rw (← c.self.view_is) (flights_in-remove c.self.inside.by_number c.remove.new.self c.args.number c.remove.ensures.updates)
