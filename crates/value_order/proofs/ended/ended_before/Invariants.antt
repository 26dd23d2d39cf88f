use Rattle.std.proofs.Common.{ℕ, ◌≡◌, ◌<◌, ◌-◌, Some, length}
use Rattle.std.specs.List.{slice_get}
use Rattle.value_order.specs.declared.keys.SortKey.{SortKey}
use Rattle.value_order.specs.Ended.{IsGreatestIndex}
use Rattle.value_order.proofs.ended.ended_before.Given as goal

abbrev pub invariant-ends : goal.invariant-ends
invariant-ends l = record {
  passed : (p : ℕ) (key : SortKey) → p < l.count → slice_get l.keys p ≡ Some key → key.rank < l.place;
  latest : IsGreatestIndex l.keys l.count l.latest;
}

abbrev pub decreases-ends : goal.decreases-ends
decreases-ends l = length l.keys - l.count
