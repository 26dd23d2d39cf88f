use Rattle.std.proofs.Common.{◌<◌, length, arith}
use Rattle.tag.proofs.Lists.{item_at}
use Rattle.recorder.proofs.PartLemmas.{key_numbers-more}
use Rattle.recorder.proofs.record.Record.key_numbers.Goals as goal

pub loop-number-preserved : goal.loop-number-preserved
loop-number-preserved c =
    let s = c.args.self.now in
    let l = c.loop-number in
    let state = c.index.result.now in
    let below : l.number < length s.states.items = omega (arith, c.loop-number-test.true, c.len-number-end.ensures, s.states.ok.0) in
    let at = item_at s.states.items l.number state below c.index.ensures in
    key_numbers-more s l.numbers.items _ l.number _ state l.invariant at (c.requires.kept (record { 0 = l.number }) state at).key c.in_ok-push.ensures.items
