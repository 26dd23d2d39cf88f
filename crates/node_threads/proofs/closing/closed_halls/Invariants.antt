use Rattle.std.proofs.Common.{◌≡◌, ◌+◌, length}
use Rattle.node_threads.specs.Closings.{AreClosed}
use Rattle.node_threads.proofs.closing.closed_halls.Given as goal

abbrev pub invariant-loop-root : goal.invariant-loop-root
invariant-loop-root g l = AreClosed l.halls.items × (length l.halls.items + length l.root-iterator.rest.items ≡ length l.fn.roots.items)
