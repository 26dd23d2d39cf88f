use Rattle.std.proofs.Common.{◌<◌, ◌≤◌, ◌+◌, arith}
use Rattle.scenes.proofs.Around.{indexes_more, indexes_all}
use Rattle.scenes.proofs.windows.indexes_in.Goals as goal

pub loop-i-preserved : goal.loop-i-preserved
loop-i-preserved c =
    let window = c.args.window in
    let i = c.loop-i.i in
    let past : window.first ≤ i = c.loop-i.invariant.past in
    let below : i < c.args.count = omega (arith, c.loop-i-test.true, c.min-some.ensures, c.saturating_sub.ensures, past) in
    let inside : i < window.first + window.count = omega (arith, c.loop-i-test.true, c.min-some.ensures, past) in
    indexes_more c.args.count window i c.loop-i.indexes.items _ below inside c.in_ok-push.ensures.items c.loop-i.invariant

pub returns : goal.returns
returns c = indexes_all c.args.count c.args.window c.loop-i.i c.loop-i.indexes.items
    (λ n below inside. omega (arith, c.loop-i-test.false, c.min-some.ensures, c.saturating_sub.ensures, below, inside)) c.loop-i.invariant
