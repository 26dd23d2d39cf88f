use Rattle.std.proofs.Common.{rules}
use Rattle.seats.proofs.seat.greater.Goals as goal

pub returns-then-one-other : goal.returns-then-one-other
returns-then-one-other c = search rules

pub returns-else-one-other : goal.returns-else-one-other
returns-else-one-other c = search rules
