use Rattle.file_format.specs.LongHistories.{long_history_format}
use Rattle.file_format.proofs.OneFault.{fault_once}
use Rattle.file_format.proofs.LongHistories.{long_sharp}
use Rattle.file_format.proofs.laws.a_long_history_has_one_first_fault.Goals as goal

pub returns : goal.returns
returns c = λ bytes m n a b h k. fault_once long_history_format long_sharp bytes m n a b h k
