use Rattle.value_order.specs.Firsts.{AreTaken}
use Rattle.value_order.proofs.Slots.{IsPassed}
use Rattle.value_order.proofs.firsts.probe_places.Given as goal

abbrev pub invariant-loop-steps : goal.invariant-loop-steps
invariant-loop-steps l = record {
  taken : AreTaken l.slots l.mark l.steps;
  passed : IsPassed l.slots l.part l.mark l.value l.steps;
}
