use Rattle.seats.proofs.SeatChanges.{new_seat}
use Rattle.seats.proofs.seating.new_seat.Goals as goal

pub invariant_of-result : goal.invariant_of-result
invariant_of-result c = new_seat c.args.store c.args.client c.args.passes.items c.args.seen.items _ c.new.ensures.items c.requires.halls c.requires.fresh
