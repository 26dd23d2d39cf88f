use Rattle.value_order.specs.Rows.{EndedAt}
use Rattle.value_order.proofs.Sides.{NoMemberBelow}
use Rattle.value_order.proofs.opposed.ended_at.Given as goal

abbrev pub invariant-loop-i : goal.invariant-loop-i
invariant-loop-i l = NoMemberBelow l.part l.family (λ call. EndedAt call l.place) l.i
