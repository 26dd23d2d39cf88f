use Rattle.seats.proofs.Keeping.{keeps_rowless}
use Rattle.seats.proofs.errand.counted_by.Goals as goal

pub returns : goal.returns
returns g c = record {
  kept = keeps_rowless _ _ c.standing.ensures.no_row c.standing.ensures.recorded;
  told = (c.standing.result.phase, c.standing.ensures.told);
}
