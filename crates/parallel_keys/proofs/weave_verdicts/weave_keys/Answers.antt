use Rattle.std.proofs.Common.{refl, ◌∙◌}
use Rattle.parallel_keys.specs.KeysToCheck.{checked_in}
use Rattle.parallel_keys.proofs.Keyed.{keyed_more, verdict_of}
use Rattle.parallel_keys.proofs.weave_verdicts.weave_keys.Goals as goal

pub loop-index-preserved : goal.loop-index-preserved
loop-index-preserved c =
    let keys = checked_in c.args.keys in
    let index = c.loop-index.index in
    let own = c.key.ensures in
    let told = rw (c.of_keys-checks.ensures.parts, c.of_keys-checks.ensures.orders) at c.verdict_at.ensures in
    keyed_more keys index _ c.loop-index.keyed.items c.push.new.self.items _ _ own.0 c.loop-index.invariant
    own.1
    (c.in_ok-copy.ensures.copy ∙ own.2)
    (verdict_of keys index own.0 _ own.1 told)
    refl
    c.in_ok-push.ensures.items
