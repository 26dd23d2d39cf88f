use Rattle.script_runs.proofs.Commands.{step_seen}
use Rattle.script_runs.proofs.script_run.ScriptRun.run.Goals as goal

pub returns-in_ok-try_step-in-Step : goal.returns-in_ok-try_step-in-Step
returns-in_ok-try_step-in-Step g c =
    let h = c.in_ok-try_step-in-Step.ensures in
    rw c.in-Step.is (step_seen g.O.Observer.sees c.args.self.now.observer c.try_step.new.self.observer c.args.self.now.world
    c.try_step.new.self.world c.args.numbered.line c.in-Step.step h.system h.seen)
