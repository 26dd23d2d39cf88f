use Rattle.std.proofs.Common.{◌≤◌}
use Rattle.load_run.specs.Callers.{AreSeated}
use Rattle.load_run.proofs.callers.join_all.Given as goal

abbrev pub invariant-loop-number : goal.invariant-loop-number
invariant-loop-number g l = AreSeated l.store.config l.number l.seats.items × (l.number ≤ l.callers)
