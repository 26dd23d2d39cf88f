use Rattle.std.proofs.Common.{rules}
use Rattle.seats.proofs.Keeping.{keeps_rowless}
use Rattle.seats.proofs.errand.stop.Goals as goal

pub returns-clause-kept : goal.returns-clause-kept
returns-clause-kept g c = keeps_rowless _ _ (search rules) (search rules)
