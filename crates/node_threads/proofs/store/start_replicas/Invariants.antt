use Rattle.std.proofs.Common.{◌≡◌, ◌≤◌, length}
use Rattle.node_threads.specs.Stores.{replica_count}
use Rattle.node_threads.proofs.store.start_replicas.Given as goal

abbrev pub invariant-loop-number : goal.invariant-loop-number
invariant-loop-number g l = record {
  count : length l.channels.items ≡ l.number;
  most : l.number ≤ l.number-end;
  end : l.number-end ≡ replica_count l.config;
}
