use Rattle.kept_families.proofs.Orders.{free_is_linearizable}
use Rattle.key_monitor.proofs.row_laws.judged_calls_are_linearizable.Goals as goal

pub returns : goal.returns
returns c part source row j all late = free_is_linearizable part source row j.sequence j.last j.sound all j.free late
