use Rattle.file_format.specs.HistoryFormat.{history_format, MakesHistory}
use Rattle.file_format.proofs.OneFault.{fault_never}
use Rattle.file_format.proofs.SharpFormats.{history_sharp}
use Rattle.file_format.proofs.laws.a_history_has_no_fault.Goals as goal

pub returns : goal.returns
returns c = λ bytes history n fault h k. fault_never history_format history_sharp MakesHistory bytes history n fault h k
