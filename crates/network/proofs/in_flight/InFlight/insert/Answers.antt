use Rattle.network.proofs.Writing.{flights_in-insert}
use Rattle.network.proofs.in_flight.InFlight.insert.Goals as goal

pub returns-clause-ok : goal.returns-clause-ok
returns-clause-ok c = rw (← c.self.view_is) (flights_in-insert c.self.inside.by_number c.insert.new.self c.args.number c.args.flight c.in_ok-insert.ensures.updates)
