use Rattle.value_order.specs.Ended.{IsFirstWriteEnd}
use Rattle.value_order.proofs.counts.first_write_end.Given as goal

abbrev pub invariant-loop-i : goal.invariant-loop-i
invariant-loop-i l = IsFirstWriteEnd l.part l.i l.first
