use Rattle.reasons.proofs.Faults.{no_order}
use Rattle.reasons.proofs.laws.a_list_with_a_reason_is_no_order.Goals as goal

pub returns : goal.returns
returns c part order reason sequence shows = no_order part order sequence reason shows
