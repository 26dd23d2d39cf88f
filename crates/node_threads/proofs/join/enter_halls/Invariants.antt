use Rattle.std.proofs.Common.{◌≡◌, length}
use Rattle.seats.specs.Seats.{AreFresh}
use Rattle.node_threads.proofs.join.enter_halls.Given as goal

abbrev pub invariant-loop-joined : goal.invariant-loop-joined
invariant-loop-joined g l = AreFresh l.client l.passes.items × (length l.passes.items ≡ l.joined)
