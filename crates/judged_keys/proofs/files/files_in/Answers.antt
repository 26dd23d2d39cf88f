-- Both files were read.
use Rattle.cli.proofs.EachKey.{distinct}
use Rattle.judged_keys.proofs.files.files_in.Goals as goal

pub returns-in-Ok-read_orders-clause-judged : goal.returns-in-Ok-read_orders-clause-judged
returns-in-Ok-read_orders-clause-judged g c =
    let read = c.in-Ok-read_orders.ensures.read.fact.1 in
    record { lines = c.in-Ok.ensures.judged.lines; distinct = distinct read.items c.in-Ok-read_orders.orders.items read.made }
