use Rattle.std.proofs.Common.{◌≡◌, length}
use Rattle.node_threads.proofs.store.others.Given as goal

abbrev pub invariant-loop-root : goal.invariant-loop-root
invariant-loop-root g l = length l.passes.items ≡ l.root-index
