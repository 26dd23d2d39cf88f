-- The trace was sent, or why there is none is said.
use Rattle.std.proofs.Common.{List, ℕ, inl, inr, refl}
use Rattle.script_runs.specs.declared.command.Script.{Script}
use Rattle.traces.specs.Traces.{IsTraceText}
use Rattle.cli.proofs.Endings.{stopped}
use Rattle.trace_command.proofs.Ending.{of_script}
use Rattle.trace_command.proofs.trace.trace_command.Goals as goal

pub returns-in-Ok : goal.returns-in-Ok
returns-in-Ok g c =
    let IsOf : Script → List ℕ → Type 0 = λ read text. IsTraceText read c.args.most text in
    let made = c.made_of.ensures in
    of_script _ _ IsOf _ (λ why is. inr is) _ c.in-Ok.script c.in-Ok.ensures.read c.made_of.result (λ outcome is. let same = rw is at made.text in rw same at c.trace_text.ensures) made.good made.quiet made.stops c.conclude.result c.conclude.ensures

pub returns-in-Err : goal.returns-in-Err
returns-in-Err g c = stopped _ _ _ _ c.in-Err.failure (inl c.in-Err.ensures.stops) refl c.report.result c.report.ensures.status c.report.ensures.told
