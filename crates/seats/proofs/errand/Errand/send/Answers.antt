use Rattle.std.proofs.Common.{Result, Ok, Err}
use Rattle.std.specs.Prelude.{OnOk}
use Rattle.seats.specs.Parcels.SendsRequest.{Refused, Sent}
use Rattle.seats.specs.Rounds.AsksReplica.{Asked}
use Rattle.seats.proofs.Keeping.{keeps_then}
use Rattle.seats.proofs.Stalling.{step_stalls}
use Rattle.seats.proofs.errand.Errand.send.Goals as goal

pub returns-in-Err-clause-sent : goal.returns-in-Err-clause-sent
returns-in-Err-clause-sent g c = Refused c.in-Err.refusal c.in-Err.ensures.refused

pub returns-in-Err-clause-stalled : goal.returns-in-Err-clause-stalled
returns-in-Err-clause-stalled g c = step_stalls _ _ _ c.in-Err.refusal _ c.stall_of.ensures c.in-Err.ensures.refused

pub returns-clause-sent : goal.returns-clause-sent
returns-clause-sent g c = Sent c.in-Ok.flight c.parcels_of-parcels.result c.send_flight.new.pass c.at.result c.in-Ok.ensures.sent c.at.ensures c.parcels_of-parcels.ensures.passed

pub returns-clause-kept : goal.returns-clause-kept
returns-clause-kept g c = keeps_then _ _ _ c.send_flight.ensures.kept c.parcels_of-parcels.ensures.kept

on_ok : {T E P : Type 0} (r : Result T E) → P → OnOk r P
on_ok (Ok x) p = p
on_ok (Err e) p = tt

pub returns-clause-asked : goal.returns-clause-asked
returns-clause-asked g c = on_ok c.post_all.result
    (Asked c.in-Ok.flight c.send_flight.new.pass c.in-Ok.ensures.sent c.parcels_of-parcels.ensures.kept)
