use Rattle.recorder.specs.declared.row.Row.TheVariants.{Respond}
use Rattle.monitor_command.proofs.Refusals.{answered}
use Rattle.monitor_command.proofs.judged_rows.JudgedRowsTakesRows.respond.Goals as goal

pub returns : goal.returns
returns c = rw (← c.self.view_is) (λ rows formed taken.
    rw c.line_answer.ensures (answered rows c.self.inside.monitor c.respond.new.self taken (Respond c.args.op c.args.returned.now) c.respond.result (c.respond.ensures rows formed taken)))
