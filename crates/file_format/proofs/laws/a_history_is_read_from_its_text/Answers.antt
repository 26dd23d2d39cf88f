use Rattle.file_format.proofs.WrittenHistories.{history_reads}
use Rattle.file_format.proofs.laws.a_history_is_read_from_its_text.Goals as goal

pub returns : goal.returns
returns c = λ rows formed ranges. history_reads rows formed ranges
