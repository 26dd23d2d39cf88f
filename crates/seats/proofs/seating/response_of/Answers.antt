use Rattle.std.proofs.Common.{rules}
use Rattle.seats.proofs.seating.response_of.Goals as goal

pub returns-clause-value : goal.returns-clause-value
returns-clause-value c = search rules
