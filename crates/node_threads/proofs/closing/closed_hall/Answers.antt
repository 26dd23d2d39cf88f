use Rattle.std.proofs.Common.{rules}
use Rattle.node_threads.proofs.closing.closed_hall.Goals as goal

pub returns : goal.returns
returns c = record {
  is = search rules;
  accepted = search rules;
  atomic = search rules;
  store = c.justified_records_are_of_a_linearizable_store.ensures c.into_history-history.result.rows c.in_ok-orders.orders.items
      c.row_count-formed.ensures.formed c.in_ok-orders.ensures;
}

pub justified_orders-requires : goal.justified_orders-requires
justified_orders-requires c = search rules
