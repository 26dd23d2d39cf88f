use Rattle.std.proofs.Common.{◌≡◌, ◌++◌}
use Rattle.traces.specs.StepLines.{members_text}
use Rattle.traces.proofs.effects.append_members.Given as goal

-- the members below the number are there
abbrev pub invariant-loop-number : goal.invariant-loop-number
invariant-loop-number l = l.text.items ≡ l.fn.text.items ++ members_text l.set l.number
