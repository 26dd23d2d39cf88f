use Rattle.file_format.specs.HistoriesFormat.{histories_format}
use Rattle.file_format.proofs.OneFault.{fault_once}
use Rattle.file_format.proofs.RowsAcrossHalls.{histories_sharp}
use Rattle.file_format.proofs.laws.a_file_of_histories_has_one_first_fault.Goals as goal

pub returns : goal.returns
returns c = λ bytes m n a b h k. fault_once histories_format histories_sharp bytes m n a b h k
