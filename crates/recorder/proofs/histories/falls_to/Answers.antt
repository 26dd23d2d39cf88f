use Rattle.std.proofs.Common.{rules}
use Rattle.recorder.proofs.histories.falls_to.Goals as goal

pub returns-in-Invoke : goal.returns-in-Invoke
returns-in-Invoke c = search rules
