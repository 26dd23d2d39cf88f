use Rattle.std.proofs.Common.{◌≡◌, take}
use Rattle.cli.specs.VerdictLines.{lines_text}
use Rattle.cli.proofs.check_outcome.lines_of.Given as goal

abbrev pub invariant-loop-told : goal.invariant-loop-told
invariant-loop-told l = l.text.items ≡ lines_text l.form (take l.told-index l.verdicts)
