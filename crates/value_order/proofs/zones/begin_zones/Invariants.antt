use Rattle.value_order.specs.Zones.{AreBegins}
use Rattle.value_order.proofs.zones.begin_zones.Given as goal

abbrev pub invariant-loop-i : goal.invariant-loop-i
invariant-loop-i l = AreBegins l.part l.i l.zones.items
