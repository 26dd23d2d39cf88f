use Rattle.recorder.proofs.OneList.{one_list}
use Rattle.recorder.proofs.laws.the_parts_are_one_list.Goals as goal

pub returns : goal.returns
returns c = one_list
