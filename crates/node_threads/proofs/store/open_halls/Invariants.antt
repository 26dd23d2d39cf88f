use Rattle.std.proofs.Common.{◌≡◌, ◌≤◌, length}
use Rattle.node_threads.proofs.store.open_halls.Given as goal

abbrev pub invariant-loop : goal.invariant-loop
invariant-loop g l = (length l.roots.items ≡ l.counter) × (l.counter ≤ l.end) × (l.end ≡ l.fn.halls)
