use Rattle.std.proofs.Common.{rules}
use Rattle.hall_lock.proofs.client_pass.begin_in.Goals as goal

pub returns-in-Ok-Invoked-clause-place : goal.returns-in-Ok-Invoked-clause-place
returns-in-Ok-Invoked-clause-place c = search rules
