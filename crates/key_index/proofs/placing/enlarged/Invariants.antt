use Rattle.key_index.proofs.Moving.{AreMoved}
use Rattle.key_index.proofs.placing.enlarged.Given as goal

abbrev pub invariant-loop-slot : goal.invariant-loop-slot
invariant-loop-slot l = AreMoved l.slots l.made.items l.fn.others l.others l.keys l.slot-index
