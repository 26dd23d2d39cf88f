use Rattle.std.proofs.Common.{List, ℕ, ◌++◌, ap, ◌∙◌}
use Rattle.std.specs.Borrow.{Bor}
use Rattle.std.proofs.lemmas.Iterator.Splits.{YieldsList-from_lines}
use Rattle.std.proofs.lemmas.Iterator.Consumers.{YieldsList-at, YieldsList-end, YieldsList-from_enumerate}
use Rattle.markup.specs.Markup.{each, rendered}
use Rattle.trace_command.specs.TracePages.{script_line}
use Rattle.trace_command.proofs.Added.{each_more, each_none}
use Rattle.trace_command.proofs.texts.append_script_lines.Goals as goal

pub loop-index-init : goal.loop-index-init
loop-index-init c = each_none script_line (λ (p : ℕ × Bor (List ℕ)). (p.0, p.1.now)) c.args.page.now.items

pub loop-index-preserved : goal.loop-index-preserved
loop-index-preserved c =
    each_more script_line (λ (p : ℕ × Bor (List ℕ)). (p.0, p.1.now)) c.loop-index.yielded _ c.args.page.now.items c.loop-index.page.items _ c.loop-index.invariant
    c.in_ok-append_script_line.ensures

pub returns : goal.returns
returns c =
    let given = YieldsList-from_enumerate {s = c.into_iter-index-iterator.result}
    (YieldsList-at {t = c.lines.result} (cc) (YieldsList-from_lines {s = c.lines.result} c.args.words.now cc)) (cc) in
    let end = YieldsList-end given c.loop-index.yielded _ c.loop-index.yielded_by _ _ c.in-None.is c.next.ensures.steps in
    c.loop-index.invariant ∙ ap (λ (ls : List (ℕ × List ℕ)). c.args.page.now.items ++ rendered (each script_line ls)) end.0
