use Rattle.seats.proofs.Keeping.{keeps_then}
use Rattle.seats.proofs.Stalling.{stalls_then}
use Rattle.seats.proofs.errand.Errand.make_ready.Goals as goal

pub returns-in-Err-clause-stalled : goal.returns-in-Err-clause-stalled
returns-in-Err-clause-stalled g c = stalls_then _ _ _ _ c.leave.ensures.kept c.in-Err.ensures.stalled

pub returns-in-Ok-clause-kept : goal.returns-in-Ok-clause-kept
returns-in-Ok-clause-kept g c = keeps_then _ _ _ c.leave.ensures.kept c.leave-in-Put.ensures.kept

pub returns-in-Err-clause-kept : goal.returns-in-Err-clause-kept
returns-in-Err-clause-kept g c = keeps_then _ _ _ c.leave.ensures.kept c.leave-in-Put.ensures.kept
