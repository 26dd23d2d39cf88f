use Rattle.std.proofs.Common.{rules}
use Rattle.seats.proofs.Keeping.{keeps_rowless, keeps_then}
use Rattle.seats.proofs.Stalling.{stalls_still}
use Rattle.seats.proofs.transport.Transport.make_call.Goals as goal

pub returns-in-Err-clause-outcome : goal.returns-in-Err-clause-outcome
returns-in-Err-clause-outcome g c = (
  record { delay = c.in-Err.delay; turn = c.in-Err.ensures.why; told = c.told_delay.ensures },
  keeps_rowless c.args.pass.now c.invoke.new.self c.in-Err.ensures.delayed c.invoke.ensures.recorded,
)

pub returns-in-Err-finish-clause-outcome : goal.returns-in-Err-finish-clause-outcome
returns-in-Err-finish-clause-outcome g c = record {
  middle = c.invoke.new.self;
  began = record { later = c.in-Ok.ensures.seen; begins = record { added = c.in-Ok.ensures.begun; recorded = c.invoke.ensures.recorded } };
  kept = keeps_then c.invoke.new.self c.finish.new.pass c.stop.new.pass c.in-Err-finish.ensures.failed c.stop.ensures.kept;
  stopped = c.stop.ensures.stopped;
  why = record {
    stall = c.in-Err-finish.stall;
    stalls = stalls_still c.invoke.new.self c.finish.new.pass c.in-Err-finish.stall c.stop.new.pass c.in-Err-finish.ensures.stalled c.stop.ensures.kept;
    told = c.told_pending.ensures;
  };
}

pub returns-in-Ok-finish-clause-outcome : goal.returns-in-Ok-finish-clause-outcome
returns-in-Ok-finish-clause-outcome g c = record {
  middle = c.invoke.new.self;
  began = record { later = c.in-Ok.ensures.seen; begins = record { added = c.in-Ok.ensures.begun; recorded = c.invoke.ensures.recorded } };
  ends = c.in-Ok-finish.ensures.ended;
}
