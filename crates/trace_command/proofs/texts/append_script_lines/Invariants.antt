use Rattle.std.proofs.Common.{◌≡◌, ◌++◌, List, ℕ, map}
use Rattle.std.specs.Borrow.{Bor}
use Rattle.markup.specs.Markup.{each, rendered}
use Rattle.trace_command.specs.TracePages.{script_line}
use Rattle.trace_command.proofs.texts.append_script_lines.Given as goal

abbrev pub invariant-loop-index : goal.invariant-loop-index
invariant-loop-index l =
    l.page.items ≡ l.fn.page.items ++ rendered (each script_line (map (λ (p : ℕ × Bor (List ℕ)). (p.0, p.1.now)) l.yielded))
