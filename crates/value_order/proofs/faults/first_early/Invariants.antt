use Rattle.tag_check.specs.Least.{HasPartner}
use Rattle.tag_check.proofs.Calls.{NoneBelow}
use Rattle.value_order.specs.Faults.{EndsTooEarly}
use Rattle.value_order.proofs.faults.first_early.Given as goal

abbrev pub invariant-loop-i : goal.invariant-loop-i
invariant-loop-i l = NoneBelow l.part (HasPartner l.part (EndsTooEarly l.part)) l.i
