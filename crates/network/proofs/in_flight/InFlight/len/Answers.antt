use Rattle.std.proofs.Common.{sym, ◌∙◌}
use Rattle.network.proofs.Writing.{len-flights_in}
use Rattle.network.proofs.in_flight.InFlight.len.Goals as goal

pub returns : goal.returns
returns c = rw (← c.self.view_is) (c.len.ensures.len ∙ sym (len-flights_in c.self.inside.by_number c.len.ensures.unique))
