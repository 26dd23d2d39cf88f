use Rattle.std.specs.Prelude.{length}
use Rattle.kept_zones.specs.Indexes.{ArePruned}
use Rattle.kept_zones.specs.Overwriting.{last_of}
use Rattle.kept_zones.proofs.inner.prune.Given as goal

abbrev pub invariant-each : goal.invariant-each
invariant-each l = ArePruned (last_of l.initial.inner.entries) l.end l.last (last_of l.inner.entries)

abbrev pub decreases-each : goal.decreases-each
decreases-each l = length l.inner.entries
