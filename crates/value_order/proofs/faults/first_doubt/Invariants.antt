use Rattle.tag_check.proofs.Calls.{NoneBelow}
use Rattle.value_order.specs.Writers.{IsInDoubt}
use Rattle.value_order.proofs.faults.first_doubt.Given as goal

abbrev pub invariant-loop-i : goal.invariant-loop-i
invariant-loop-i l = NoneBelow l.part (IsInDoubt l.part) l.i
