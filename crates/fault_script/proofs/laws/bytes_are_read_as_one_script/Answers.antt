use Rattle.fault_script.proofs.ReadOnce.{script_once}
use Rattle.fault_script.proofs.laws.bytes_are_read_as_one_script.Goals as goal

pub returns : goal.returns
returns c = λ bytes a b h k. script_once bytes a b h k
