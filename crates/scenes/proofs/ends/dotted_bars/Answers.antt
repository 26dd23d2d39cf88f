use Rattle.std.proofs.lemmas.Option.{slice_get_within}
use Rattle.scenes.proofs.Ending.{bars_are, bars_ended, dots_are}
use Rattle.scenes.proofs.ShownCalls.{bars_rise}
use Rattle.scenes.proofs.ends.dotted_bars.Goals as goal

pub dots_of-requires : goal.dots_of-requires
dots_of-requires c = rw c.deref.ensures.value c.in_ok-bars.ensures.calls

pub reach_dots-requires : goal.reach_dots-requires
reach_dots-requires c = λ dot there.
    let are = rw c.deref.ensures.value at c.in_ok-dots.ensures in
    let has = (are.exactly dot).0 (rw c.deref-2.ensures.value at there) in
    slice_get_within c.in_ok-bars.bars.items dot.bar has.0 has.1

pub returns-clause-bars : goal.returns-clause-bars
returns-clause-bars c =
    bars_are c.args.part.now c.args.shown.now c.args.history.now.rows c.args.lanes.now c.in_ok-bars.bars.items _ _ c.in_ok-bars.ensures.bars
    c.reach_dots.ensures

pub returns-clause-calls : goal.returns-clause-calls
returns-clause-calls c =
    let part = c.args.part.now in
    let shown = c.args.shown.now in
    let rows = c.args.history.now.rows in
    let lanes = c.args.lanes.now in
    let are = bars_are part shown rows lanes c.in_ok-bars.bars.items _ _ c.in_ok-bars.ensures.bars c.reach_dots.ensures in
    bars_rise part shown rows lanes _ c.len-sequence.ensures.sequence c.requires.shown are

pub returns-clause-dots : goal.returns-clause-dots
returns-clause-dots c =
    let old = c.in_ok-bars.bars.items in
    let reaching = rw c.deref-2.ensures.value at c.reach_dots.ensures in
    dots_are c.args.part.now c.args.shown.now c.args.history.now.rows c.args.lanes.now old _ _ c.in_ok-bars.ensures.bars reaching
    c.args.order.now c.args.points.now (rw c.deref.ensures.value at c.in_ok-dots.ensures)

pub returns-clause-ends : goal.returns-clause-ends
returns-clause-ends c =
    let reaching = rw c.deref-2.ensures.value at c.reach_dots.ensures in
    bars_ended c.args.part.now c.args.shown.now c.args.history.now.rows c.args.lanes.now c.in_ok-bars.bars.items _ _ c.in_ok-bars.ensures.bars
    reaching
