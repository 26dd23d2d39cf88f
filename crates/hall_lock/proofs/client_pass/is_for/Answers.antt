use Rattle.std.proofs.Common.{rules}
use Rattle.hall_lock.proofs.client_pass.is_for.Goals as goal

pub returns-in-Some-ToClient : goal.returns-in-Some-ToClient
returns-in-Some-ToClient c = search rules
