use Rattle.std.proofs.Common.{refl}
use Rattle.parallel_keys.specs.Checks.{orders_in, parts_in}
use Rattle.parallel_keys.proofs.WorkerVerdicts.{verdicts_more}
use Rattle.parallel_keys.proofs.share.Share.check.Goals as goal

pub loop-index-preserved : goal.loop-index-preserved
loop-index-preserved g c =
    verdicts_more (parts_in c.args.self.checks) (orders_in c.args.self.checks) c.args.self.worker c.args.self.workers c.loop-index.index _ c.loop-index.verdicts c.push.new.self c.in_ok-check.field-0
    c.loop-index.invariant
    c.in_ok-check.ensures
    refl
    c.in_ok-push.ensures
