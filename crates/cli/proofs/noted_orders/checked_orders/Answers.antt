use Rattle.std.proofs.lemmas.Result.{err_from_is_err_and}
use Rattle.cli.proofs.Prefixes.{hall_justified, hall_unjustified}
use Rattle.cli.proofs.noted_orders.checked_orders.Goals as goal

pub loop-own-preserved : goal.loop-own-preserved
loop-own-preserved c =
    hall_justified _ c.args.parts.now c.loop-own.own-index c.own-item.result c.loop-own-test.true c.own-item.is c.add_orders.new.orders.items (c.in_ok-add_orders.ensures.orders _ c.loop-own.invariant)

pub returns-in_err-add_orders-clause-refused : goal.returns-in_err-add_orders-clause-refused
returns-in_err-add_orders-clause-refused c =
    let p = err_from_is_err_and c.from_residual.result c.from_residual.ensures.1 in
    rw (p.1, p.2) (hall_unjustified _ c.args.parts.now c.loop-own.own-index c.own-item.result c.loop-own-test.true c.own-item.is c.in_err-add_orders.field-0.0 (c.in_err-add_orders.ensures.refused _ _ c.loop-own.invariant))
