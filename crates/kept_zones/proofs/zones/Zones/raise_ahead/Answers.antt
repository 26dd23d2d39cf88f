use Rattle.kept_zones.specs.Overwriting.{last_of, IsFreeTo}
use Rattle.kept_zones.proofs.Changes.{Sets, raised_ahead}
use Rattle.kept_zones.proofs.Slots.{sets_zone}
use Rattle.kept_zones.proofs.zones.Zones.raise_ahead.Goals as goal

pub invariant_of-self-2 : goal.invariant_of-self-2
invariant_of-self-2 c =
    let i = c.self.inside in
    let later = rw (← c.self.view_is) at c.requires.later in
    let free : IsFreeTo i.all.entries c.args.end c.args.last = rw (← c.self.view_is) at c.requires.free in
    let sets : Sets (last_of i.all.entries) c.args.end c.args.last (last_of c.put.new.all.entries) = record { here = c.put.ensures.here; others = c.put.ensures.others } in
    raised_ahead (last_of i.all.entries) (last_of i.forward.entries) (last_of i.inner.entries) i.floor c.args.end c.args.last later.0 c.self.invariant later.1 later.2 free (last_of c.put.new.all.entries) sets c.requires.ahead (last_of c.insert.new.self.entries) (sets_zone i.forward.entries c.args.end c.args.last c.insert.new.self.entries c.in_ok-insert.ensures.ok)
