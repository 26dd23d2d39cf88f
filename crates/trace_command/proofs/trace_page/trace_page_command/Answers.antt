-- The page was sent, or why there is none is said.
use Rattle.std.proofs.Common.{inl, inr, refl}
use Rattle.cli.proofs.Endings.{stopped}
use Rattle.trace_command.specs.Endings.{IsTracePageText}
use Rattle.trace_command.proofs.Ending.{of_script}
use Rattle.trace_command.proofs.trace_page.trace_page_command.Goals as goal

pub returns-in-Ok : goal.returns-in-Ok
returns-in-Ok g c =
    let made = c.made_of.ensures in
    of_script _ _ (IsTracePageText c.args.words.now c.args.most c.args.drawn) _ (λ why is. inr is) _ c.in-Ok.script c.in-Ok.ensures.read c.made_of.result (λ outcome is. let same = rw is at made.text in rw same at c.page_of_script-page.ensures) made.good made.quiet made.stops c.conclude.result c.conclude.ensures

pub returns-in-Err : goal.returns-in-Err
returns-in-Err g c = stopped _ _ _ _ c.in-Err.failure (inl c.in-Err.ensures.stops) refl c.report.result c.report.ensures.status c.report.ensures.told
