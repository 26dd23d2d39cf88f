use Rattle.store_orders.proofs.KeyTurns.{first_ends}
use Rattle.store_orders.proofs.laws.what_ends_first_stands_first.Goals as goal

pub returns : goal.returns
returns c rows order i j a b formed store = first_ends rows formed order store i j a b
