use Rattle.value_order.proofs.CallClasses.{AreFilled}
use Rattle.value_order.proofs.classes.fill_in_reads.Given as goal

abbrev pub invariant-loop-i : goal.invariant-loop-i
invariant-loop-i l = AreFilled l.part l.i l.classes
