-- A store's order has calls of the history alone, and keeps their precedence.
use Rattle.whole_pictures.proofs.found.one_order.Goals as goal

pub returns-clause-points : goal.returns-clause-points
returns-clause-points c calls are =
    let order = c.in_ok-order.order.items in
    let rows = c.args.hall.now.history.now.rows in
    let whole = (c.a_store_order_is_ordered_by_key.ensures rows c.requires.0 calls order c.requires.1 are).0 c.in_ok-order.ensures.order in
    (whole.known, whole.precedence)
