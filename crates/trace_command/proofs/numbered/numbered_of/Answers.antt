use Rattle.std.proofs.Common.{ap, ◌∙◌}
use Rattle.trace_command.proofs.Numbering.{in_halls, numbered_so}
use Rattle.trace_command.proofs.numbered.numbered_of.Goals as goal

pub returns : goal.returns
returns c =
    numbered_so c.args.history _ c.in_ok-lines.lines (c.in-Some.ensures.value ∙ ap in_halls c.in_ok-halls.ensures.items) c.in_ok-lists.ensures.items
    c.in_ok-lines.ensures
