use Rattle.std.proofs.Common.{rules}
use Rattle.counted_devices.proofs.count_failures.Counting.fail.Goals as goal

pub returns-clause-counted : goal.returns-clause-counted
returns-clause-counted g c = search rules
