use Rattle.file_format.specs.OrderFormat.{order_format}
use Rattle.file_format.proofs.OneFault.{fault_once}
use Rattle.file_format.proofs.SharpFormats.{orders_sharp}
use Rattle.file_format.proofs.laws.an_order_file_has_one_first_fault.Goals as goal

pub returns : goal.returns
returns c = λ bytes m n a b h k. fault_once order_format orders_sharp bytes m n a b h k
