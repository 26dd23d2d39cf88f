use Rattle.std.proofs.Common.{◌≡◌, ◌++◌}
use Rattle.run_command.proofs.join_halls.append.Given as goal

abbrev pub invariant-loop-order : goal.invariant-loop-order
invariant-loop-order l = l.orders.items ++ l.order-iterator.rest.items ≡ l.fn.orders.items ++ l.fn.further.items
