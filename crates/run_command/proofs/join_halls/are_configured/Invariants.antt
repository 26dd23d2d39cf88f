use Rattle.std.proofs.Common.{◌≡◌, ◌<◌, ℕ, Some, slice_get}
use Rattle.run_command.specs.Records.{AreEqual}
use Rattle.node_threads.specs.declared.closing.ClosedHall.{ClosedHall}
use Rattle.run_command.proofs.join_halls.are_configured.Given as goal

abbrev pub invariant-loop-closed : goal.invariant-loop-closed
invariant-loop-closed l = (hall : ℕ) (closed : ClosedHall) → hall < l.closed-index → slice_get l.halls hall ≡ Some closed → AreEqual closed.config l.config
