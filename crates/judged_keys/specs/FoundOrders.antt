-- The order that is found of a key by the values of its calls: the one that values make, or where
-- these leave it in doubt, the one that its tags make.
use Rattle.std.specs.Prelude.{◌⊎◌, List}
use Rattle.tag.specs.declared.numbers.OpId.{OpId}
use Rattle.recorder.specs.declared.part.Call.{Call}
use Rattle.recorder.specs.Orders.{IsOrder}
use Rattle.recorder.specs.Sound.{IsByTag}
use Rattle.value_order.specs.Decisions.{IsDecision, LacksFaults}
use Rattle.value_order.specs.Doubts.{IsLeastDoubt}
use Rattle.value_order.specs.FamilyOrders.{IsFamilyOrder}
use Rattle.value_order.specs.Writers.{IsInDoubt}
use Rattle.value_order.specs.declared.decision.Decision.{Decision}
use Rattle.value_order.specs.declared.decision.Decision.TheVariants as decision
use Rattle.value_order.specs.declared.decision.Doubt.{Doubt}
use Rattle.judged_keys.specs.Findings.{IsRefuted, IsUndecided}
use Rattle.judged_keys.specs.declared.finding.Finding.{Finding}
use Rattle.judged_keys.specs.declared.finding.Finding.TheVariants as finding

module _ (part : List Call) where
  -- the order that values make, by families
  pub record IsValueOrder (order : List OpId) : Type 0 where
    pub decided : IsDecision part (decision.Atomic order)
    pub families : IsFamilyOrder part order

  -- values leave a read in doubt and show no fault, and the tags make that order
  pub record IsOrderInDoubt (order : List OpId) : Type 0 where
    pub doubt : Doubt
    pub least : IsLeastDoubt part (IsInDoubt part) doubt
    pub faultless : LacksFaults part
    pub by_tag : IsByTag part order
    pub ordered : IsOrder part order

  -- the order that is found
  abbrev pub IsFoundOrder : List OpId → Type 0
  IsFoundOrder order = IsValueOrder order ⊎ IsOrderInDoubt order

  -- what is found of the calls, with their order if one is
  abbrev pub IsKeyDecision : Decision → Type 0
  IsKeyDecision (decision.Atomic order) = IsFoundOrder order
  IsKeyDecision (decision.NotAtomic fault) = IsRefuted part fault
  IsKeyDecision (decision.Undecided doubt) = IsUndecided part doubt

-- the same without an order
abbrev pub finding_of : Decision → Finding
finding_of (decision.Atomic order) = finding.Atomic
finding_of (decision.NotAtomic fault) = finding.ValueFault fault
finding_of (decision.Undecided doubt) = finding.Undecided doubt
