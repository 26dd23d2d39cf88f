use Rattle.std.proofs.lemmas.Result.{err_from_is_err_and}
use Rattle.seats.proofs.Keeping.{keeps_then}
use Rattle.seats.proofs.Stalling.{stalls_then}
use Rattle.seats.proofs.errand.hear.Goals as goal

pub returns-in_err-second-in-Twice-clause-stalled : goal.returns-in_err-second-in-Twice-clause-stalled
returns-in_err-second-in-Twice-clause-stalled g c =
    let p = err_from_is_err_and c.from_residual-in_err-second-in-Twice.result c.from_residual-in_err-second-in-Twice.ensures.1 in
    rw (p.1, p.2) (λ reach. stalls_then _ _ _ _ c.deliver-in-Twice.ensures.kept (c.in_err-second-in-Twice.ensures.stalled reach))

pub returns-in_err-second-in-Twice-clause-kept : goal.returns-in_err-second-in-Twice-clause-kept
returns-in_err-second-in-Twice-clause-kept g c = keeps_then _ _ _ c.deliver-in-Twice.ensures.kept c.deliver-in-Twice-2.ensures.kept

pub returns-in_ok-second-in-Twice-clause-kept : goal.returns-in_ok-second-in-Twice-clause-kept
returns-in_ok-second-in-Twice-clause-kept g c = keeps_then _ _ _ c.deliver-in-Twice.ensures.kept c.deliver-in-Twice-2.ensures.kept
