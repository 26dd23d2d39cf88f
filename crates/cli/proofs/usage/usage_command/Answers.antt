use Rattle.std.proofs.Common.{refl}
use Rattle.cli.proofs.Sayings.{saying}
use Rattle.cli.proofs.usage.usage_command.Goals as goal

pub returns-in-Fault : goal.returns-in-Fault
returns-in-Fault g c = rw c.in-Fault.is (saying _ _ _ _ _ _ refl refl c.as_bytes.ensures.value c.say_text.ensures)

pub returns-in-Memory : goal.returns-in-Memory
returns-in-Memory g c = rw c.in-Memory.is (saying _ _ _ _ _ _ c.report.ensures.status refl refl c.report.ensures.told)
