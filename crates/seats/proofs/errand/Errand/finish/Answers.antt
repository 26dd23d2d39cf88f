use Rattle.seats.proofs.Keeping.{keeps_rowless, keeps_then}
use Rattle.seats.proofs.Stalling.{stalls_then, step_stalls}
use Rattle.seats.proofs.errand.Errand.finish.Goals as goal

pub returns-in-Ok-clause-ended : goal.returns-in-Ok-clause-ended
returns-in-Ok-clause-ended g c = record {
  middle = c.make_ready.new.pass;
  kept = c.make_ready.ensures.kept;
  answered = c.in-Ok.ensures.ended;
  recorded = c.respond.ensures.recorded;
}

pub returns-in-Err-clause-failed : goal.returns-in-Err-clause-failed
returns-in-Err-clause-failed g c =
    keeps_then c.args.pass.now c.make_ready.new.pass c.respond.new.self c.make_ready.ensures.kept
    (keeps_rowless c.make_ready.new.pass c.respond.new.self c.in-Err.ensures.refused c.respond.ensures.recorded)

pub returns-in-Err-clause-stalled : goal.returns-in-Err-clause-stalled
returns-in-Err-clause-stalled g c = stalls_then _ _ _ _ c.make_ready.ensures.kept
    (step_stalls _ _ _ c.in-Err.refusal _ c.stall_of.ensures c.in-Err.ensures.why)
