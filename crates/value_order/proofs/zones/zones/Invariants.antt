use Rattle.value_order.specs.Writers.{IsOnlyWriter}
use Rattle.value_order.proofs.ZoneTables.{AreZonesBelow}
use Rattle.value_order.proofs.zones.zones.Given as goal

abbrev pub invariant-loop-i : goal.invariant-loop-i
invariant-loop-i l = AreZonesBelow l.part (IsOnlyWriter l.part) l.row l.i l.zones.items
