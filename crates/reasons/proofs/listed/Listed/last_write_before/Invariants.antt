use Rattle.recorder.specs.Orders.{NoWriteFrom}
use Rattle.reasons.proofs.listed.Listed.last_write_before.Given as goal

abbrev pub invariant-loop-i : goal.invariant-loop-i
invariant-loop-i l = NoWriteFrom l.self.part.now l.self.order.now l.i l.fn.place
