-- What is found of calls by their values, with their order and without.
use Rattle.std.proofs.Common.{List, inl, inr, refl}
use Rattle.tag.specs.declared.numbers.OpId.{OpId}
use Rattle.recorder.specs.declared.part.Call.{Call}
use Rattle.recorder.specs.Orders.{IsLinearizable}
use Rattle.value_order.specs.Decisions.{IsDecision}
use Rattle.value_order.specs.FamilyOrders.{IsFamilyOrder, IsSure}
use Rattle.value_order.specs.declared.decision.Decision.{Decision}
use Rattle.value_order.specs.declared.decision.Decision.TheVariants as decision
use Rattle.parallel_keys.specs.CheckedKeys.{CheckedKey}
use Rattle.judged_keys.specs.Findings.{IsAtomic, IsFinding}
use Rattle.judged_keys.specs.FoundOrders.{IsFoundOrder, IsKeyDecision, IsOrderInDoubt, finding_of}
use Rattle.judged_keys.specs.declared.judged.Judged.TheVariants as judged

-- calls that have an order by their values, and of which no read is in doubt
pub atomic_by_values : (part : List Call) → IsLinearizable part → IsSure part → IsAtomic part
atomic_by_values part ordered sure = record { ordered = ordered; found = inl sure }

-- calls of which a read is in doubt, and that have an order by their tags
pub atomic_in_doubt : (part : List Call) (order : List OpId) → IsOrderInDoubt part order → IsAtomic part
atomic_in_doubt part order is = record { ordered = (order, is.ordered); found = inr (order, is.by_tag, is.ordered) }

-- the order that values make is found
pub found_by_values : (part : List Call) (order : List OpId) → IsDecision part (decision.Atomic order) → IsFamilyOrder part order → IsFoundOrder part order
found_by_values part order decided families = inl (record { decided = decided; families = families })

-- an order that is found shows that the calls are atomic
found_atomic : (part : List Call) (order : List OpId) → IsFoundOrder part order → IsAtomic part
found_atomic part order (inl made) = atomic_by_values part (order, made.decided.0) made.families.sure
found_atomic part order (inr tagged) = atomic_in_doubt part order tagged

-- what is found with an order is found without
pub decision_finding : (one : CheckedKey) (decided : Decision) → IsKeyDecision one.part decided → IsFinding judged.Values one (finding_of decided)
decision_finding one (decision.Atomic order) found = record { by = refl; so = found_atomic one.part order found }
decision_finding one (decision.NotAtomic fault) refuted = record { by = refl; so = refuted }
decision_finding one (decision.Undecided doubt) undecided = record { by = refl; so = undecided }
