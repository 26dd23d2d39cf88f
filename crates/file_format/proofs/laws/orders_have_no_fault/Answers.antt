use Rattle.file_format.specs.OrderFormat.{order_format, MakesJoined}
use Rattle.file_format.proofs.OneFault.{fault_never}
use Rattle.file_format.proofs.SharpFormats.{orders_sharp}
use Rattle.file_format.proofs.laws.orders_have_no_fault.Goals as goal

pub returns : goal.returns
returns c = λ bytes orders n fault h k. fault_never order_format orders_sharp MakesJoined bytes orders n fault h k
