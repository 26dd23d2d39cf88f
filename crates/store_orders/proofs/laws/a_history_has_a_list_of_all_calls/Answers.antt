use Rattle.store_orders.proofs.AllCalls.{calls_there}
use Rattle.store_orders.proofs.laws.a_history_has_a_list_of_all_calls.Goals as goal

pub returns : goal.returns
returns c = calls_there
