use Rattle.cli.proofs.status.Failure.report.Goals.{in-Closed, in-File, in-Script, in-Output, in-Memory, in-Thread}
use Rattle.cli.proofs.status.Failure.report.Goals as goal

pub returns-clause-told : goal.returns-clause-told
returns-clause-told g c = elim c.match-self.branch [
  | in-Closed w ↦ rw (w.errors-is, w.in-Closed.is) w.say.ensures
  | in-File w ↦ rw (w.errors-is, w.in-File.is) w.say_fault.ensures
  | in-Script w ↦ rw (w.errors-is, w.in-Script.is) w.say_fault-in-Script.ensures
  | in-Output w ↦ rw (w.errors-is, w.in-Output.is) w.say-in-Output.ensures
  | in-Memory w ↦ rw (w.errors-is, w.in-Memory.is) w.say-in-Memory.ensures
  | in-Thread w ↦ rw (w.errors-is, w.in-Thread.is) w.say-in-Thread.ensures
]
