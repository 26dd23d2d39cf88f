use Rattle.std.proofs.Common.{ℕ, ◌<◌}
use Rattle.witness_order.proofs.Unnoted.{IsNotedAt}
use Rattle.witness_order.proofs.tag_order.first_unnoted.Given as goal

abbrev pub invariant-loop-k : goal.invariant-loop-k
invariant-loop-k l = (k : ℕ) → k < l.k → IsNotedAt l.part k
