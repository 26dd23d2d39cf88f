use Rattle.std.proofs.lemmas.Result.{err_from_is_err_and}
use Rattle.seats.proofs.Keeping.{keeps_then}
use Rattle.seats.proofs.Stalling.{stalls_then}
use Rattle.seats.proofs.errand.Errand.hear_round.Goals as goal

pub returns-in_err-next-clause-stalled : goal.returns-in_err-next-clause-stalled
returns-in_err-next-clause-stalled g c =
    let p = err_from_is_err_and c.from_residual.result c.from_residual.ensures.1 in
    rw (p.1, p.2) (stalls_then _ _ _ _ c.loop.invariant (c.in_err-next.ensures.stalled _))

pub returns-in_err-next-clause-kept : goal.returns-in_err-next-clause-kept
returns-in_err-next-clause-kept g c = keeps_then _ _ _ c.loop.invariant c.hear.ensures.kept

pub returns-then-is_some-clause-kept : goal.returns-then-is_some-clause-kept
returns-then-is_some-clause-kept g c = keeps_then _ _ _ c.loop.invariant c.hear.ensures.kept

pub loop-preserved : goal.loop-preserved
loop-preserved g c = keeps_then _ _ _ c.loop.invariant c.hear.ensures.kept
