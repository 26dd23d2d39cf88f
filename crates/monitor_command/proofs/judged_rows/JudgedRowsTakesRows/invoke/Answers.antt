use Rattle.recorder.specs.declared.row.Row.TheVariants.{Invoke}
use Rattle.monitor_command.proofs.Refusals.{answered}
use Rattle.monitor_command.proofs.judged_rows.JudgedRowsTakesRows.invoke.Goals as goal

pub returns : goal.returns
returns c = rw (← c.self.view_is) (λ rows formed taken.
    rw c.line_answer.ensures (answered rows c.self.inside.monitor c.invoke.new.self taken (Invoke c.args.op c.args.client c.args.key.now c.args.action.now) c.invoke.result (c.invoke.ensures rows formed taken)))
