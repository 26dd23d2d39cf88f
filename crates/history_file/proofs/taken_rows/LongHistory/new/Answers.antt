use Rattle.history_file.proofs.TakenLines.{none_taken}
use Rattle.history_file.proofs.taken_rows.LongHistory.new.Goals as goal

pub returns-clause-made : goal.returns-clause-made
returns-clause-made g c = none_taken g.T.TakesRows.HasTaken c.args.taker c.requires
