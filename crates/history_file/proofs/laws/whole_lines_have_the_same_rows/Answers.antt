use Rattle.history_file.proofs.TakenLines.{rows_once}
use Rattle.history_file.proofs.laws.whole_lines_have_the_same_rows.Goals as goal

pub returns : goal.returns
returns c = λ bytes rows others a b. rows_once bytes rows others a b
