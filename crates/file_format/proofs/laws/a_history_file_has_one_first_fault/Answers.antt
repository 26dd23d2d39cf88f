use Rattle.file_format.specs.HistoryFormat.{history_format}
use Rattle.file_format.proofs.OneFault.{fault_once}
use Rattle.file_format.proofs.SharpFormats.{history_sharp}
use Rattle.file_format.proofs.laws.a_history_file_has_one_first_fault.Goals as goal

pub returns : goal.returns
returns c = λ bytes m n a b h k. fault_once history_format history_sharp bytes m n a b h k
