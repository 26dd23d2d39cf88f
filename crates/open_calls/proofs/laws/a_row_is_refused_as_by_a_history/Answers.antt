use Rattle.open_calls.proofs.Reasons.{alike}
use Rattle.open_calls.proofs.laws.a_row_is_refused_as_by_a_history.Goals as goal

pub returns : goal.returns
returns c history row refusal room turn = alike history room row refusal turn
