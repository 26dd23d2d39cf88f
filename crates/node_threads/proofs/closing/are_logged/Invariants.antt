use Rattle.std.proofs.Common.{◌≡◌, ◌<◌, ℕ, Some, slice_get}
use Rattle.seats.specs.Seats.{Seat}
use Rattle.node_threads.specs.Closings.{HasLogs}
use Rattle.node_threads.proofs.closing.are_logged.Given as goal

abbrev pub invariant-loop-seat : goal.invariant-loop-seat
invariant-loop-seat l = (k : ℕ) (s : Seat) → k < l.seat-index → slice_get l.seats k ≡ Some s → HasLogs l.halls s
