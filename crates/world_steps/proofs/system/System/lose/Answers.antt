use Rattle.std.proofs.Common.{rules}
use Rattle.world_steps.proofs.system.System.lose.Goals as goal

pub returns : goal.returns
returns c = search rules
