use Rattle.std.proofs.Common.{List, ℕ, ◌++◌, ap, ◌∙◌}
use Rattle.std.proofs.lemmas.Iterator.Splits.{YieldsList-from_lines}
use Rattle.std.proofs.lemmas.Iterator.Consumers.{YieldsList-end}
use Rattle.markup.specs.Markup.{each, rendered}
use Rattle.draw_command.specs.Pages.{why_line}
use Rattle.draw_command.proofs.Adding.{each_next, each_none}
use Rattle.draw_command.proofs.section.append_lines.Goals as goal

pub loop-line-init : goal.loop-line-init
loop-line-init c = each_none (why_line c.args.links.now.targets.now c.args.links.now.calls.now) c.args.page.now.items

pub loop-line-preserved : goal.loop-line-preserved
loop-line-preserved c = each_next (why_line c.args.links.now.targets.now c.args.links.now.calls.now) c.loop-line.yielded _ c.args.page.now.items c.loop-line.page.items _ c.loop-line.invariant c.in_ok-append_line.ensures

pub returns : goal.returns
returns c =
    let given = YieldsList-from_lines {s = c.into_iter-line-iterator.result} c.args.text.now cc in
    let end = YieldsList-end given c.loop-line.yielded _ c.loop-line.yielded_by _ _ c.in-None.is c.next.ensures.steps in
    c.loop-line.invariant ∙ ap (λ (ls : List (List ℕ)). c.args.page.now.items ++ rendered (each (why_line c.args.links.now.targets.now c.args.links.now.calls.now) ls)) end.0
