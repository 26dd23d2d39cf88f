use Rattle.std.proofs.Common.{◌≡◌, ◌++◌}
use Rattle.markup.specs.Markup.{rendered}
use Rattle.labels.specs.Each.{each_below}
use Rattle.diagrams.specs.Lifelines.{replica_lifeline}
use Rattle.diagrams.proofs.lifelines.append_replicas.Given as goal

abbrev pub invariant-loop-number : goal.invariant-loop-number
invariant-loop-number l = l.page.items ≡ l.fn.page.items ++ rendered (each_below (replica_lifeline l.scene) l.number)
