use Rattle.std.proofs.Common.{◌≡◌, ◌++◌}
use Rattle.run_command.specs.Records.{histories_in, orders_in}
use Rattle.run_command.proofs.join_halls.join_halls.Given as goal

abbrev pub invariant-loop-closed : goal.invariant-loop-closed
invariant-loop-closed l = record {
  histories : l.histories.items ++ histories_in l.closed-iterator.rest.items ≡ histories_in l.fn.halls.items;
  orders : l.orders.items ++ orders_in l.closed-iterator.rest.items ≡ orders_in l.fn.halls.items;
}
