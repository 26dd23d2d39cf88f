use Rattle.std.proofs.Common.{◌+◌, ◌||◌, Bool, ap, map, take}
use Rattle.parallel_keys.proofs.Fronts.{mapped_more}
use Rattle.parallel_keys.specs.KeysToCheck.{what_of}
use Rattle.judged_keys.proofs.Judgements.{parted_more}
use Rattle.judged_keys.proofs.finding.find_each.Goals as goal

pub loop-one-preserved : goal.loop-one-preserved
loop-one-preserved c =
    let keys = c.args.keys.now in
    let i = c.loop-one.one-index in
    let one = c.one-item.result in
    parted_more c.args.judged (map what_of (take i keys)) (map what_of (take (i + 1) keys)) _ c.loop-one.refused.items c.loop-one.others.items c.loop-one.undecided
    (mapped_more what_of keys i one c.loop-one-test.true c.one-item.is) c.in_ok-finding.ensures c.loop-one.invariant _ _ _ c.in_ok-part.ensures.refused c.in_ok-part.ensures.others
    (ap (λ (b : Bool). c.loop-one.undecided || b) c.is_undecided-undecided.ensures)
