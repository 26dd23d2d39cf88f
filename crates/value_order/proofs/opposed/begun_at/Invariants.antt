use Rattle.std.proofs.Common.{◌≡◌}
use Rattle.value_order.proofs.Sides.{NoMemberBelow}
use Rattle.value_order.proofs.opposed.begun_at.Given as goal

abbrev pub invariant-loop-i : goal.invariant-loop-i
invariant-loop-i l = NoMemberBelow l.part l.family (λ call. call.invoked ≡ l.place) l.i
