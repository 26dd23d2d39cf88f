use Rattle.std.proofs.Common.{ℕ, List, Option, drop}
use Rattle.run_command.specs.Messages.{ReceivesLines, refusal_lines}
use Rattle.run_command.proofs.Saying.{between}
use Rattle.run_command.proofs.telling.tell_refusals.Given as goal

-- once the lines after are said too, all are
abbrev pub invariant-loop-refused : goal.invariant-loop-refused
invariant-loop-refused g l =
    (now : Option (List ℕ)) (failures : ℕ) → ReceivesLines (between (g.E.Write.contents l.errors) now (g.E.Counted.failures l.errors) failures) (refusal_lines (drop l.refused-index l.refusals))
    → ReceivesLines (between (g.E.Write.contents l.fn.errors) now (g.E.Counted.failures l.fn.errors) failures) (refusal_lines l.refusals)
