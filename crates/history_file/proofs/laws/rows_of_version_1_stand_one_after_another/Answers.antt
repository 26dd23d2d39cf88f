use Rattle.history_file.proofs.NumberedLines.{one_after_another}
use Rattle.history_file.proofs.laws.rows_of_version_1_stand_one_after_another.Goals as goal

pub returns : goal.returns
returns c = λ items fits. one_after_another items fits
