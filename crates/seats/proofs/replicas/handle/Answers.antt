use Rattle.std.proofs.Common.{refl}
use Rattle.seats.specs.Parcels.ServesRequest.{Answered, Refused}
use Rattle.seats.proofs.replicas.handle.Goals as goal

pub returns-in-Err : goal.returns-in-Err
returns-in-Err g c = Refused _ c.in-Err.ensures.refused refl

pub returns : goal.returns
returns g c = Answered c.in-Ok.flight c.deliver.new.self c.at.result c.in-Ok.ensures.served c.at.ensures c.report_of.ensures
