use Rattle.std.proofs.Common.{IsSome}
use Rattle.kept_zones.proofs.Maps.{set_from, dropped_from}
use Rattle.kept_writers.specs.Candidates.{begin_at}
use Rattle.kept_writers.proofs.Standing.{once_ended_at}
use Rattle.kept_writers.proofs.writers.Writers.end.Goals as goal

pub invariant_of-self-2 : goal.invariant_of-self-2
invariant_of-self-2 c =
    let i = c.self.inside in
    let there : IsSome (begin_at i.begins.entries c.args.number) = rw (← c.self.view_is) at c.requires.there in
    once_ended_at i.begins.entries i.ends.entries c.self.invariant c.args.number c.args.end there c.remove.new.self.entries c.insert.new.self.entries (set_from i.ends c.insert.new.self c.args.end c.args.number c.in_ok-insert.ensures.updates) (dropped_from i.begins c.remove.new.self c.args.number c.remove.ensures.updates)
