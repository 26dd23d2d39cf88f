-- Both files were read, and what is made of their keys was sent; or one has a fault.
use Rattle.std.proofs.Common.{inr}
use Rattle.judged_keys.proofs.Ending.{history_read, of_both}
use Rattle.judged_keys.proofs.commands.judge_orders_command.Goals as goal

pub returns-in-Ok-clause-ends : goal.returns-in-Ok-clause-ends
returns-in-Ok-clause-ends g c =
    of_both _ _ (g.P.Presentation.Presents c.args.shown.now) _ (λ why is. inr is) c.in-Ok.files c.made_of.result c.made_of.ensures.made
    c.made_of.ensures.stops c.conclude.result c.conclude.ensures _ c.in-Ok.ensures.read _ c.in-Ok.ensures.orders

pub returns-in-Ok-clause-faulty : goal.returns-in-Ok-clause-faulty
returns-in-Ok-clause-faulty g c =
    record { history_read = history_read _ _ c.in-Ok.ensures.read; are = c.in-Ok.files.orders.items; orders_read = c.in-Ok.ensures.orders }
