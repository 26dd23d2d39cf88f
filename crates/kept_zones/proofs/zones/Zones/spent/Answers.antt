use Rattle.kept_zones.proofs.Finding.{one_unspent, two_there}
use Rattle.kept_zones.proofs.zones.Zones.spent.Goals as goal

pub returns-else-is_spent-2 : goal.returns-else-is_spent-2
returns-else-is_spent-2 c =
    two_there c.args.self.now c.args.place (c.in_ok-first.first, c.in_ok-first.field-0-1) (c.in_ok-second.second, c.in_ok-second.field-0-1)
    (rw (← c.self.view_is) c.in_ok-first.ensures) c.if-is_spent.ensures (rw (← c.self.view_is) c.in_ok-second.ensures) c.if-is_spent-2.ensures

pub returns-then-has_no_other : goal.returns-then-has_no_other
returns-then-has_no_other c =
    one_unspent c.args.self.now c.args.place c.in_ok-first.first (rw (← c.self.view_is) (c.has_no_other.ensures c.if-has_no_other.true)) c.if-is_spent.ensures
