use Rattle.std.proofs.Common.{◌≤◌, length}
use Rattle.value_order.proofs.NextWrites.{AreNextsFrom}
use Rattle.value_order.proofs.nexts.next_writes.Given as goal

abbrev pub invariant-calls : goal.invariant-calls
invariant-calls l = record {
  within : l.i ≤ length l.classes;
  are : AreNextsFrom l.classes l.i l.nexts.items l.following.items;
}

abbrev pub decreases-calls : goal.decreases-calls
decreases-calls l = l.i
