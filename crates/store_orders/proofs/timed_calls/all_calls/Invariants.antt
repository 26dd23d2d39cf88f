use Rattle.std.proofs.Common.{take}
use Rattle.store_orders.specs.TimedCalls.{AreCallsWithPoints}
use Rattle.store_orders.proofs.timed_calls.all_calls.Given as goal

abbrev pub invariant-loop-place : goal.invariant-loop-place
invariant-loop-place l = AreCallsWithPoints (take l.place l.parts.entries) (take l.place l.orders) l.calls.items
