use Rattle.std.proofs.Common.{arith}
use Rattle.hall_lock.proofs.client_pass.next_place.Goals as goal

pub returns-clause-few : goal.returns-clause-few
returns-clause-few c = omega (arith, c.row_count.ensures.few)
