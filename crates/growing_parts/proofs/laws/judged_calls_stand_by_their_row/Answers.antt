use Rattle.growing_parts.proofs.Staying.{judged_stand}
use Rattle.growing_parts.proofs.laws.judged_calls_stand_by_their_row.Goals as goal

pub returns : goal.returns
returns c part source row j = judged_stand part source row j
