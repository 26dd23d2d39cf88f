use Rattle.std.proofs.Common.{rules}
use Rattle.world_steps.proofs.system.System.respond_refusal.Goals as goal

pub returns-in-Some-Ready : goal.returns-in-Some-Ready
returns-in-Some-Ready c = search rules
