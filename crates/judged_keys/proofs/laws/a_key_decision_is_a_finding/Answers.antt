use Rattle.judged_keys.proofs.FoundOrders.{decision_finding}
use Rattle.judged_keys.proofs.laws.a_key_decision_is_a_finding.Goals as goal

pub returns : goal.returns
returns c = decision_finding
