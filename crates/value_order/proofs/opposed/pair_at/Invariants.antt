use Rattle.value_order.proofs.Pairs.{NoPairBelow}
use Rattle.value_order.proofs.opposed.pair_at.Given as goal

abbrev pub invariant-loop-i : goal.invariant-loop-i
invariant-loop-i l = NoPairBelow l.part l.row l.i
