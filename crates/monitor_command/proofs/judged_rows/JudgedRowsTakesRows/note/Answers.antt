use Rattle.recorder.specs.declared.row.Row.TheVariants.{Note}
use Rattle.monitor_command.proofs.Refusals.{answered}
use Rattle.monitor_command.proofs.judged_rows.JudgedRowsTakesRows.note.Goals as goal

pub returns : goal.returns
returns c = rw (← c.self.view_is) (λ rows formed taken.
    rw c.line_answer.ensures (answered rows c.self.inside.monitor c.note.new.self taken (Note c.args.op c.args.tag) c.note.result (c.note.ensures rows formed taken)))
