use Rattle.tag_check.proofs.Calls.{NoneBelow}
use Rattle.value_order.specs.Faults.{IsStaleDoubt}
use Rattle.value_order.proofs.overwritten.first_overwritten.Given as goal

abbrev pub invariant-loop-i : goal.invariant-loop-i
invariant-loop-i l = NoneBelow l.part (IsStaleDoubt l.part) l.i
