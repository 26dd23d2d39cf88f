use Rattle.value_order.specs.SortKeys.{AreSortKeys}
use Rattle.value_order.proofs.keys.sort_keys.Given as goal

abbrev pub invariant-loop-i : goal.invariant-loop-i
invariant-loop-i l = AreSortKeys l.zones l.sources l.i l.keys.items
