use Rattle.std.proofs.Common.{rules}
use Rattle.hall_lock.proofs.free_pass.join_in.Goals as goal

pub returns-in-Ok-clause-joined : goal.returns-in-Ok-clause-joined
returns-in-Ok-clause-joined c = search rules
