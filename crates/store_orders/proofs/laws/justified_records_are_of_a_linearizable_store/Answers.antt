use Rattle.store_orders.proofs.Exists.{of_orders}
use Rattle.store_orders.proofs.laws.justified_records_are_of_a_linearizable_store.Goals as goal

pub returns : goal.returns
returns c rows orders formed justify =
    of_orders rows formed justify.0 justify.1 (c.a_part_is_one_list.ensures rows) orders justify.2
