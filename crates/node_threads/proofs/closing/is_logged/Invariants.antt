use Rattle.std.proofs.Common.{◌≡◌, ◌<◌, ℕ, Some, slice_get}
use Rattle.recorder.specs.Logs.{IsLog, of_hall}
use Rattle.node_threads.specs.declared.closing.ClosedHall.{ClosedHall}
use Rattle.node_threads.proofs.closing.is_logged.Given as goal

abbrev pub invariant-loop-hall : goal.invariant-loop-hall
invariant-loop-hall l = (hall : ℕ) (closed : ClosedHall) → hall < l.hall → slice_get l.halls hall ≡ Some closed → IsLog
    closed.history.rows l.seat.client (of_hall hall l.seat.log)
