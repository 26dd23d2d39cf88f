use Rattle.seats.proofs.Keeping.{keeps_rowless}
use Rattle.seats.proofs.errand.turn.Goals as goal

pub returns-clause-kept : goal.returns-clause-kept
returns-clause-kept g c = keeps_rowless _ _ c.take.ensures.no_row c.take.ensures.recorded
