use Rattle.kept_zones.specs.Overwriting.{last_of, AreBefore}
use Rattle.kept_zones.proofs.Slots.{drops_zone, sets_zone}
use Rattle.kept_zones.proofs.Steps.{added, restored, same_inner}
use Rattle.kept_zones.proofs.zones.Zones.add.Goals as goal

pub invariant_of-self-in-Ok : goal.invariant_of-self-in-Ok
invariant_of-self-in-Ok c =
    let i = c.self.inside in
    let before : AreBefore i.all.entries c.args.end = rw (← c.self.view_is) at c.requires.before in
    added (last_of i.all.entries) (last_of i.forward.entries) (last_of i.inner.entries) i.floor c.args.end c.args.last c.self.invariant before c.requires.begun (last_of c.insert.new.self.entries) (last_of c.hold.new.inner.entries)
    (sets_zone i.all.entries c.args.end c.args.last c.insert.new.self.entries c.in-Ok.ensures.ok) c.in_ok-hold.ensures.ok

pub invariant_of-self-in-Err : goal.invariant_of-self-in-Err
invariant_of-self-in-Err c =
    let i = c.self.inside in
    let before : AreBefore i.all.entries c.args.end = rw (← c.self.view_is) at c.requires.before in
    let same = restored (last_of i.all.entries) (last_of i.forward.entries) (last_of i.inner.entries) i.floor c.args.end c.args.last c.self.invariant before (last_of c.hold.new.inner.entries) (last_of c.remove.new.self.entries) c.in_ok-hold.ensures.ok (drops_zone c.hold.new.inner.entries c.args.end c.remove.new.self.entries c.remove.ensures.gone) in
    rw c.in-Err.ensures.err (same_inner (last_of i.all.entries) (last_of i.forward.entries) (last_of i.inner.entries) (last_of c.remove.new.self.entries) i.floor same c.self.invariant)
