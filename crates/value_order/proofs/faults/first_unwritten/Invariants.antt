use Rattle.tag_check.proofs.Calls.{NoneBelow}
use Rattle.value_order.specs.Faults.{AnswersUnwritten}
use Rattle.value_order.proofs.faults.first_unwritten.Given as goal

abbrev pub invariant-loop-i : goal.invariant-loop-i
invariant-loop-i l = NoneBelow l.part (AnswersUnwritten l.part) l.i
