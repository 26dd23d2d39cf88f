use Rattle.value_order.specs.Ended.{AreEndKeys}
use Rattle.value_order.proofs.ended.end_keys.Given as goal

abbrev pub invariant-loop-i : goal.invariant-loop-i
invariant-loop-i l = AreEndKeys l.part l.i l.keys.items
