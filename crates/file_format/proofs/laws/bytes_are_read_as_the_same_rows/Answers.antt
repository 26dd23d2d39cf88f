use Rattle.std.proofs.Common.{sym, ◌∙◌}
use Rattle.file_format.specs.LongHistories.{long_history_format, MakesRows}
use Rattle.file_format.proofs.Once.{reads_once}
use Rattle.file_format.proofs.OneFault.{fault_never}
use Rattle.file_format.proofs.LongHistories.{long_sharp}
use Rattle.file_format.proofs.laws.bytes_are_read_as_the_same_rows.Goals as goal

pub returns-clause-once : goal.returns-clause-once
returns-clause-once c = λ bytes rows others h k. h.made ∙ reads_once long_history_format MakesRows bytes rows others h k ∙ sym k.made

pub returns-clause-sound : goal.returns-clause-sound
returns-clause-sound c = λ bytes rows n fault h k. fault_never long_history_format long_sharp MakesRows bytes rows n fault h k
