use Rattle.value_order.specs.SortKeys.{AreNumbersOf}
use Rattle.value_order.proofs.keys.numbers.Given as goal

abbrev pub invariant-loop-i : goal.invariant-loop-i
invariant-loop-i l = AreNumbersOf l.part l.keys l.i l.ops.items
