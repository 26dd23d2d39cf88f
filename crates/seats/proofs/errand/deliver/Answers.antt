use Rattle.seats.proofs.Keeping.{keeps_reply}
use Rattle.seats.proofs.Stalling.{any_delivery, delivery_stalls}
use Rattle.seats.proofs.errand.deliver.Goals as goal

pub returns-clause-kept : goal.returns-clause-kept
returns-clause-kept g c = keeps_reply _ _ c.deliver-taken.ensures.took c.deliver-taken.ensures.recorded

pub returns-clause-delivered : goal.returns-clause-delivered
returns-clause-delivered g c = any_delivery _ _ _ _ c.deliver-taken.ensures.delivered c.deliver-taken.ensures.kept

pub returns-clause-stalled : goal.returns-clause-stalled
returns-clause-stalled g c = delivery_stalls _ _ _ _ _ c.deliver-taken.ensures.kept c.phase_after.ensures
