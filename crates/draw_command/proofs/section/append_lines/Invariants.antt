use Rattle.std.proofs.Common.{◌≡◌, ◌++◌, List, ℕ, map}
use Rattle.std.specs.Borrow.{Bor}
use Rattle.markup.specs.Markup.{each, rendered}
use Rattle.draw_command.specs.Pages.{why_line}
use Rattle.draw_command.proofs.section.append_lines.Given as goal

abbrev pub invariant-loop-line : goal.invariant-loop-line
invariant-loop-line l = l.page.items ≡ l.fn.page.items ++ rendered (each (why_line l.links.targets.now l.links.calls.now) (map (λ (t : Bor (List ℕ)). t.now) l.yielded))
