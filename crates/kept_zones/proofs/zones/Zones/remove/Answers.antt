use Rattle.std.proofs.Common.{◌≡◌, ◌≤◌, Some, max, sym, ◌∙◌, arith}
use Rattle.kept_zones.specs.Overwriting.{last_of}
use Rattle.kept_zones.proofs.Changes.{gone}
use Rattle.kept_zones.proofs.Slots.{drops_zone}
use Rattle.kept_zones.proofs.zones.Zones.remove.Goals as goal

pub invariant_of-self : goal.invariant_of-self
invariant_of-self c =
    let i = c.self.inside in
    let there : last_of i.all.entries c.args.end ≡ Some c.in-Some.last = sym c.get.ensures ∙ c.in-Some.is in
    let is : c.max-self-inside.result ≡ max i.floor c.in-Some.last = c.max-self-inside.ensures in
    let low : i.floor ≤ c.max-self-inside.result = omega arith in
    let above : c.in-Some.last ≤ c.max-self-inside.result = omega arith in
    gone (last_of i.all.entries) (last_of i.forward.entries) (last_of i.inner.entries) i.floor c.args.end c.in-Some.last c.self.invariant there (last_of c.remove.new.self.entries) (last_of c.remove-2.new.self.entries) (last_of c.remove-3.new.self.entries)
    (drops_zone i.all.entries c.args.end c.remove.new.self.entries c.remove.ensures.gone) (drops_zone i.forward.entries c.args.end c.remove-2.new.self.entries c.remove-2.ensures.gone) (drops_zone i.inner.entries c.args.end c.remove-3.new.self.entries c.remove-3.ensures.gone) c.max-self-inside.result low above
