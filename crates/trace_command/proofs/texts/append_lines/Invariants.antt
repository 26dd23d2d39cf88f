use Rattle.std.proofs.Common.{◌≡◌, ◌++◌, List, ℕ, map}
use Rattle.std.specs.Borrow.{Bor}
use Rattle.markup.specs.Markup.{each, rendered}
use Rattle.trace_command.specs.TracePages.{told_line}
use Rattle.trace_command.proofs.texts.append_lines.Given as goal

abbrev pub invariant-loop-line : goal.invariant-loop-line
invariant-loop-line l = l.page.items ≡ l.fn.page.items ++ rendered (each told_line (map (λ (t : Bor (List ℕ)). t.now) l.yielded))
