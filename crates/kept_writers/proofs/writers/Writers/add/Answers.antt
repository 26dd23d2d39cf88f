use Rattle.kept_zones.proofs.Maps.{set_from}
use Rattle.kept_writers.specs.Written.{IsNew}
use Rattle.kept_writers.proofs.Standing.{once_added}
use Rattle.kept_writers.proofs.writers.Writers.add.Goals as goal

pub invariant_of-self-2 : goal.invariant_of-self-2
invariant_of-self-2 c =
    let i = c.self.inside in
    let is : IsNew (record { begins = i.begins.entries; ends = i.ends.entries }) c.args.number = rw (← c.self.view_is) at c.requires in
    once_added i.begins.entries i.ends.entries c.self.invariant c.args.number _ is.other c.insert.new.self.entries (set_from i.begins c.insert.new.self _ _ c.in_ok-insert.ensures.updates)
