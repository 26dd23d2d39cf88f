use Rattle.kept_zones.specs.Overwriting.{last_of, IsFreeTo}
use Rattle.kept_zones.proofs.Changes.{Sets}
use Rattle.kept_zones.proofs.Steps.{raised_behind}
use Rattle.kept_zones.proofs.zones.Zones.raise_behind.Goals as goal

pub invariant_of-self-2 : goal.invariant_of-self-2
invariant_of-self-2 c =
    let i = c.self.inside in
    let later = rw (← c.self.view_is) at c.requires.later in
    let free : IsFreeTo i.all.entries c.args.end c.args.last = rw (← c.self.view_is) at c.requires.free in
    let sets : Sets (last_of i.all.entries) c.args.end c.args.last (last_of c.put.new.all.entries) = record { here = c.put.ensures.here; others = c.put.ensures.others } in
    raised_behind (last_of i.all.entries) (last_of i.forward.entries) (last_of i.inner.entries) i.floor c.args.end c.args.last later.0 c.self.invariant later.1 later.2 free (last_of c.put.new.all.entries) sets c.requires.behind (last_of c.hold.new.inner.entries) c.in_ok-hold.ensures.ok
