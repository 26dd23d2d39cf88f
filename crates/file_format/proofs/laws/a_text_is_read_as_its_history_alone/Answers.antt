use Rattle.file_format.proofs.WrittenHistories.{history_text_of}
use Rattle.file_format.proofs.laws.a_text_is_read_as_its_history_alone.Goals as goal

pub returns : goal.returns
returns c = λ rows history formed ranges read. (history_text_of rows formed ranges).alone history read
