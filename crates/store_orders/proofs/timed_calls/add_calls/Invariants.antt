use Rattle.std.proofs.Common.{◌≡◌, ◌++◌, List}
use Rattle.store_orders.specs.TimedCalls.{AreFirstCalls}
use Rattle.store_orders.specs.declared.timed_calls.TimedCall.{TimedCall}
use Rattle.store_orders.proofs.timed_calls.add_calls.Given as goal

abbrev pub invariant-loop-index : goal.invariant-loop-index
invariant-loop-index l =
    (more : List TimedCall) × AreFirstCalls l.order l.points.items l.index more × (l.calls.items ≡ l.initial.calls.items ++ more)
