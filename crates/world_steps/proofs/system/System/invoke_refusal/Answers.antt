use Rattle.std.proofs.Common.{rules}
use Rattle.world_steps.proofs.system.System.invoke_refusal.Goals as goal

pub returns-in-Some-Idle-2 : goal.returns-in-Some-Idle-2
returns-in-Some-Idle-2 c = search rules
