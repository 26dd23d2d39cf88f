use Rattle.key_index.proofs.Searching.{IsPassed}
use Rattle.key_index.proofs.slots.standing.Given as goal

abbrev pub invariant-loop-steps : goal.invariant-loop-steps
invariant-loop-steps l = IsPassed l.slots l.keys l.mark l.text l.steps
