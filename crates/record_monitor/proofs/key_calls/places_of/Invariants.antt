use Rattle.record_monitor.proofs.AnsweredCalls.{AreGathered}
use Rattle.record_monitor.proofs.key_calls.places_of.Given as goal

abbrev pub invariant-loop-zone : goal.invariant-loop-zone
invariant-loop-zone l = AreGathered l.places l.zones l.zone-index
