use Rattle.random_steps.specs.Choices.{draw, step_of}
use Rattle.script_runs.proofs.Strides.{passed_over}
use Rattle.script_runs.proofs.script_run.ScriptRun.next_random.Goals as goal

pub returns-then-ignores_refused-clause-step : goal.returns-then-ignores_refused-clause-step
returns-then-ignores_refused-clause-step g c =
    let s = c.args.self.now.world in
    let chosen = step_of s (draw c.args.steps.now) in
    passed_over c.next_unless_busy.result s chosen _ (c.ignores_refused.ensures c.if-ignores_refused.true s chosen)
    c.next_unless_busy.ensures.step
