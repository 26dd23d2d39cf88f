use Rattle.std.proofs.Common.{refl}
use Rattle.parallel_keys.specs.Checks.{orders_in, parts_in}
use Rattle.parallel_keys.proofs.Woven.{woven_none, woven_more}
use Rattle.parallel_keys.proofs.weave_verdicts.weave.Goals as goal

pub loop-index-init : goal.loop-index-init
loop-index-init c = woven_none (parts_in c.args.checks) (orders_in c.args.checks) 0 _ refl c.in_ok-verdicts.ensures.items

pub loop-index-preserved : goal.loop-index-preserved
loop-index-preserved c =
    let index = c.loop-index.index in
    woven_more (parts_in c.args.checks) (orders_in c.args.checks) index _ c.loop-index.verdicts.items c.push.new.self.items (record { index = index; verdict = c.verdict_at-verdict.result }) c.loop-index.invariant
    refl
    c.verdict_at-verdict.ensures
    refl
    c.in_ok-push.ensures.items
