use Rattle.file_format.proofs.LongHistories.{read_long, read_short}
use Rattle.file_format.proofs.laws.a_history_is_one_of_any_length.Goals as goal

pub returns : goal.returns
returns c = λ bytes rows few. (read_long bytes rows, read_short bytes rows few)
