use Rattle.file_format.specs.HistoriesFormat.{MakesHistories}
use Rattle.history_file.proofs.Bodies.{kept_unchanged}
use Rattle.history_file.proofs.histories_format.HallHistoriesBody.follow.Goals as goal

pub returns-clause-kept : goal.returns-clause-kept
returns-clause-kept c = λ header items made fits.
    kept_unchanged (MakesHistories header items) c.follow.result c.args.self.now c.follow.new.self c.follow.ensures.unchanged made
