use Rattle.std.proofs.Common.{arith}
use Rattle.parallel_keys.specs.Shares.{AreOfShare}
use Rattle.parallel_keys.specs.Checks.{parts_in, orders_in}
use Rattle.parallel_keys.proofs.WorkerVerdicts.{lists_more}
use Rattle.parallel_keys.proofs.check.+run_workers.Goals as goal

pub returns : goal.returns
returns g t c =
    let last = c.args.last in
    let own : AreOfShare last c.in_ok-join.field-0 = rw c.in_ok-started.ensures at c.in_ok-join.ensures in
    let others = rw c.share_of-before.ensures at c.in_ok-lists.ensures in
    lists_more (parts_in last.checks) (orders_in last.checks) last.workers _ last.worker c.in_ok-lists.lists.items c.push-2.new.self.items c.in_ok-join.field-0 others
    (omega arith)
    c.in_ok-push-2.ensures.items
    own
