use Rattle.value_order.specs.Nothings.{IsFirstShown}
use Rattle.value_order.proofs.nothings.first_shown.Given as goal

abbrev pub invariant-loop-i : goal.invariant-loop-i
invariant-loop-i l = IsFirstShown l.part l.i l.first
