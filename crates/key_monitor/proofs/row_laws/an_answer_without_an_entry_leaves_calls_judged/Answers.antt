use Rattle.key_monitor.proofs.Judging.{answered_judged}
use Rattle.key_monitor.proofs.row_laws.an_answer_without_an_entry_leaves_calls_judged.Goals as goal

pub returns : goal.returns
returns c = answered_judged
