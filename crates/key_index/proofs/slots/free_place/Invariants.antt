use Rattle.key_index.specs.Slots.{AreTaken}
use Rattle.key_index.proofs.slots.free_place.Given as goal

abbrev pub invariant-loop-steps : goal.invariant-loop-steps
invariant-loop-steps l = AreTaken l.slots l.mark l.steps
