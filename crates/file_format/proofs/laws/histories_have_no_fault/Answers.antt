use Rattle.file_format.specs.HistoriesFormat.{histories_format, MakesHistories}
use Rattle.file_format.proofs.OneFault.{fault_never}
use Rattle.file_format.proofs.RowsAcrossHalls.{histories_sharp}
use Rattle.file_format.proofs.laws.histories_have_no_fault.Goals as goal

pub returns : goal.returns
returns c = λ bytes histories n fault h k. fault_never histories_format histories_sharp MakesHistories bytes histories n fault h k
