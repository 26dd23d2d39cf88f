use Rattle.std.specs.Prelude.{length}
use Rattle.monitored_key.specs.Passes.{GoesOn}
use Rattle.monitored_key.specs.WritesOf.{entries_of}
use Rattle.monitored_key.proofs.kept.Kept.forget.Given as goal

abbrev pub invariant-each : goal.invariant-each
invariant-each l = GoesOn l.fn.self l.self

abbrev pub decreases-each : goal.decreases-each
decreases-each l = length (entries_of l.self.writes)
