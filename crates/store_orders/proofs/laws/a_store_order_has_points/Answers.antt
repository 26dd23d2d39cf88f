use Rattle.store_orders.proofs.KeyTurns.{AreApart-calls, AreCalls-store, IsSequence-calls, KeepsPrecedence-store}
use Rattle.store_orders.proofs.laws.a_store_order_has_points.Goals as goal

pub returns : goal.returns
returns c rows calls order formed are store =
    let points = c.precedence_is_kept_where_there_are_points.ensures calls order (IsSequence-calls rows calls are formed)
    (AreApart-calls rows calls are) (AreCalls-store rows calls are order store) in
    points.0 (KeepsPrecedence-store rows calls are order store)
