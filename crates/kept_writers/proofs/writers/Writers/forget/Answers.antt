use Rattle.kept_zones.proofs.Maps.{dropped_from}
use Rattle.kept_writers.proofs.Standing.{once_forgot}
use Rattle.kept_writers.proofs.writers.Writers.forget.Goals as goal

pub invariant_of-self : goal.invariant_of-self
invariant_of-self c =
    let i = c.self.inside in
    once_forgot i.begins.entries i.ends.entries c.self.invariant _ c.remove.new.self.entries (dropped_from i.ends c.remove.new.self _ c.remove.ensures.updates)
