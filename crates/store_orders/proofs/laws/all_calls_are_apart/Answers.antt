use Rattle.store_orders.proofs.KeyTurns.{AreApart-calls}
use Rattle.store_orders.proofs.laws.all_calls_are_apart.Goals as goal

pub returns : goal.returns
returns c rows calls are = AreApart-calls rows calls are
