use Rattle.std.proofs.Common.{refl}
use Rattle.justify_by_values.proofs.Gathering.{justified}
use Rattle.justify_by_values.proofs.found_orders.FoundOrders.outcome.Goals as goal

pub returns : goal.returns
returns c = justified c.args.unchecked c.args.self _ c.found-found.ensures c.in_ok-text.ensures refl
