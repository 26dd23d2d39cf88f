use Rattle.std.proofs.lemmas.Result.{err_from_is_err_and}
use Rattle.cli.proofs.Noted.{all_noted}
use Rattle.cli.proofs.noted_orders.checked_order.Goals as goal

pub returns-in_err-check_part-clause-refused : goal.returns-in_err-check_part-clause-refused
returns-in_err-check_part-clause-refused c =
    let p = err_from_is_err_and c.from_residual.result c.from_residual.ensures.1 in
    rw (p.1, p.2) (all_noted c.args.part.now c.in-Ok.order c.in-Ok.ensures.order)

pub returns-in_err-copy-in-Yes-clause-refused : goal.returns-in_err-copy-in-Yes-clause-refused
returns-in_err-copy-in-Yes-clause-refused c =
    let p = err_from_is_err_and c.from_residual-in_err-copy-in-Yes.result c.from_residual-in_err-copy-in-Yes.ensures.1 in
    rw (p.1, p.2) (all_noted c.args.part.now c.in-Ok.order c.in-Ok.ensures.order)
