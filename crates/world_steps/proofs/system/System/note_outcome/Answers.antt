use Rattle.std.proofs.Common.{rules}
use Rattle.world_steps.proofs.system.System.note_outcome.Goals as goal

pub returns-in_default : goal.returns-in_default
returns-in_default c = search rules
