use Rattle.std.proofs.Common.{rules}
use Rattle.parallel_keys.proofs.histories.check_histories.Goals as goal

pub returns : goal.returns
returns g c = search rules
