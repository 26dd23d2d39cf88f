use Rattle.std.proofs.Common.{◌≡◌, ◌+◌}
use Rattle.node_threads.specs.Stores.{AllTakeOrNeedNot, switch_step}
use Rattle.node_threads.proofs.switch_replica.switch_in_each.Given as goal

abbrev pub invariant-loop-root : goal.invariant-loop-root
invariant-loop-root g l = record {
  all : l.tally.took + l.tally.idle ≡ l.root-index;
  each : AllTakeOrNeedNot l.root-index (switch_step l.wanted l.replica);
}
