-- What judging a key finds: by its order, by the tags of its calls, or by their values, and where
-- these leave it open by the order that its tags make.
use Rattle.std.specs.Prelude.{◌≡◌, ◌⊎◌, Bool, true, false, List, None, Some}
use Rattle.tag.specs.declared.numbers.OpId.{OpId}
use Rattle.recorder.specs.declared.part.Call.{Call}
use Rattle.recorder.specs.Orders.{IsLinearizable, IsOrder}
use Rattle.recorder.specs.Sound.{IsByTag, TagSound}
use Rattle.certificate_check.specs.Verdicts.{IsVerdict}
use Rattle.certificate_check.specs.declared.verdict.Verdict.TheVariants as verdict
use Rattle.tag_check.specs.Verdicts.{IsTagVerdict}
use Rattle.value_order.specs.declared.decision.Doubt.{Doubt}
use Rattle.value_order.specs.declared.decision.ValueFault.{ValueFault}
use Rattle.value_order.specs.Decisions.{IsFault, LacksFaults, LacksFaultsBefore}
use Rattle.value_order.specs.Doubts.{IsLeastDoubt}
use Rattle.value_order.specs.FamilyOrders.{IsSure}
use Rattle.value_order.specs.Writers.{IsInDoubt}
use Rattle.parallel_keys.specs.CheckedKeys.{CheckedKey}
use Rattle.judged_keys.specs.declared.finding.Finding.{Finding}
use Rattle.judged_keys.specs.declared.finding.Finding.TheVariants as finding
use Rattle.judged_keys.specs.declared.judged.Judged.{Judged}
use Rattle.judged_keys.specs.declared.judged.Judged.TheVariants as judged

module _ (part : List Call) where
  -- no order by the calls' tags is one
  abbrev pub HasNoTagOrder : Type 0
  HasNoTagOrder = (order : List OpId) → IsByTag part order → IsOrder part order → ⊥

  -- an order by the calls' tags is one
  abbrev pub HasTagOrder : Type 0
  HasTagOrder = (order : List OpId) × IsByTag part order × IsOrder part order

  -- the calls have an order, by their values if no read is in doubt, or else by their tags
  pub record IsAtomic : Type 0 where
    pub ordered : IsLinearizable part
    pub found : IsSure part ⊎ HasTagOrder

  -- the calls have that fault and none before it, and no order
  pub record IsRefuted (fault : ValueFault) : Type 0 where
    pub has : IsFault part fault
    pub first : LacksFaultsBefore part fault
    pub unordered : IsLinearizable part → ⊥

  -- that read is the least that has two writers, there is no fault, and the tags neither make an
  -- order nor are sound
  pub record IsUndecided (doubt : Doubt) : Type 0 where
    pub least : IsLeastDoubt part (IsInDoubt part) doubt
    pub faultless : LacksFaults part
    pub untagged : HasNoTagOrder
    pub unsound : TagSound part → ⊥

-- what was found of a key is so. By its order: it is one of its calls, or has that fault. By the
-- tags of its calls: they are sound, or that is the first rule that they break. By their values:
-- the calls have an order; they have none, which that fault shows; or that doubt leaves it open
abbrev pub IsSo : CheckedKey → Finding → Type 0
IsSo one finding.Ordered = IsVerdict one.part one.order verdict.Yes
IsSo one (finding.OrderFault fault) = IsVerdict one.part one.order (verdict.No fault)
IsSo one finding.Sound = IsTagVerdict one.part None
IsSo one (finding.TagFault rule) = IsTagVerdict one.part (Some rule)
IsSo one finding.Atomic = IsAtomic one.part
IsSo one (finding.ValueFault fault) = IsRefuted one.part fault
IsSo one (finding.Undecided doubt) = IsUndecided one.part doubt

-- what the key was judged by
abbrev pub judged_by : Finding → Judged
judged_by finding.Ordered = judged.Orders
judged_by (finding.OrderFault fault) = judged.Orders
judged_by finding.Sound = judged.Tags
judged_by (finding.TagFault rule) = judged.Tags
judged_by f = judged.Values

-- that was found of the key, which was judged so
pub record IsFinding (judged : Judged) (one : CheckedKey) (f : Finding) : Type 0 where
  pub by : judged_by f ≡ judged
  pub so : IsSo one f

-- the key is refused
abbrev pub is_refused : Finding → Bool
is_refused (finding.OrderFault fault) = true
is_refused (finding.TagFault rule) = true
is_refused (finding.ValueFault fault) = true
is_refused f = false

-- the key is undecided
abbrev pub is_undecided : Finding → Bool
is_undecided (finding.Undecided doubt) = true
is_undecided f = false
