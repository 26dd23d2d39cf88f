use Rattle.recorder.proofs.OneList.{one_part}
use Rattle.recorder.proofs.laws.a_part_is_one_list.Goals as goal

pub returns : goal.returns
returns c = one_part
