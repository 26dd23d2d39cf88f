-- The order that is found of calls is one of them, and calls that are atomic have one.
use Rattle.std.proofs.Common.{List, inl, inr}
use Rattle.tag.specs.declared.numbers.OpId.{OpId}
use Rattle.recorder.specs.declared.part.Call.{Call}
use Rattle.recorder.specs.Orders.{IsOrder}
use Rattle.value_order.specs.declared.decision.Doubt.{Doubt}
use Rattle.value_order.specs.declared.decision.ValueFault.{ValueFault}
use Rattle.judged_keys.specs.Findings.{IsAtomic, IsRefuted, IsUndecided}
use Rattle.judged_keys.specs.FoundOrders.{IsFoundOrder}

pub is_order : (part : List Call) (order : List OpId) → IsFoundOrder part order → IsOrder part order
is_order part order (inl made) = made.decided.0
is_order part order (inr tagged) = tagged.ordered

pub not_refuted : (part : List Call) (fault : ValueFault) → IsAtomic part → IsRefuted part fault → ⊥
not_refuted part fault atomic refuted = refuted.unordered atomic.ordered

pub not_undecided : (part : List Call) (doubt : Doubt) → IsAtomic part → IsUndecided part doubt → ⊥
not_undecided part doubt atomic undecided = elim (atomic.found) [
  | inl sure ↦ let least = undecided.least.least in sure least.call least.recorded least.has
  | inr tagged ↦ undecided.untagged tagged.0 tagged.1 tagged.2
]
