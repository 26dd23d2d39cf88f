-- Which order values make: that of families.
use Rattle.std.specs.Prelude.{ℕ, List}
use Rattle.tag.specs.declared.numbers.OpId.{OpId}
use Rattle.recorder.specs.declared.part.Call.{Call}
use Rattle.tag_check.specs.Least.{LacksCall}
use Rattle.value_order.specs.declared.decision.Decision.{Decision}
use Rattle.value_order.specs.declared.decision.Decision.TheVariants as decision
use Rattle.value_order.specs.declared.decision.ValueVerdict.{ValueVerdict}
use Rattle.value_order.specs.declared.decision.ValueVerdict.TheVariants as verdict
use Rattle.value_order.specs.declared.zones.Zone.{Zone}
use Rattle.value_order.specs.Keys.{IsByFamilies}
use Rattle.value_order.specs.Writers.{IsInDoubt, IsOnlyWriter}
use Rattle.value_order.specs.Zones.{AreZones, IsLastRow}

module _ (part : List Call) where
  -- no read is in doubt
  abbrev pub IsSure : Type 0
  IsSure = LacksCall part (IsInDoubt part)

  -- no read is in doubt, and the order has the calls family by family, sorted by their zones
  pub record IsFamilyOrder (order : List OpId) : Type 0 where
    pub sure : IsSure
    pub row : ℕ
    pub last : IsLastRow part row
    pub zones : List Zone
    pub are_zones : AreZones part (IsOnlyWriter part) row zones
    pub sorted : IsByFamilies part (IsOnlyWriter part) zones order

  -- an order that is answered is that one
  abbrev pub AnswersFamilyOrder : Decision → Type 0
  AnswersFamilyOrder (decision.Atomic order) = IsFamilyOrder order
  AnswersFamilyOrder decided = Unit {0}

  -- that there is an order is said only if no read is in doubt
  abbrev pub IsSureVerdict : ValueVerdict → Type 0
  IsSureVerdict verdict.Atomic = IsSure
  IsSureVerdict said = Unit {0}
