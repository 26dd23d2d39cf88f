use Rattle.std.proofs.Common.{None, get_or, length, ◌∙◌, arith}
use Rattle.std.proofs.lemmas.Option.{slice_get-get_or}
use Rattle.scenes.proofs.FirstFits.{all_fitted, bar_there, bar_within, each_stands, fitted_next, no_bar, none_fitted}
use Rattle.scenes.proofs.first_fit.shared_columns.Goals as goal

pub loop-bar-init : goal.loop-bar-init
loop-bar-init c = rw c.new-taken.ensures.items (none_fitted c.args.bars.now c.args.ends.now c.in_ok-columns.columns.items c.in_ok-columns.ensures.all c.in_ok-columns.ensures.each)

pub bounds-ends-bar : goal.bounds-ends-bar
bounds-ends-bar c = bar_within (length c.args.ends.now) c.args.bars.now c.requires.bars c.loop-bar.bar-index c.loop-bar-test.true

pub offset_bounds-ends-bar : goal.offset_bounds-ends-bar
offset_bounds-ends-bar c =
    let within = bar_within (length c.args.ends.now) c.args.bars.now c.requires.bars c.loop-bar.bar-index c.loop-bar-test.true in
    omega (arith, within)

pub put_lane-requires : goal.put_lane-requires
put_lane-requires c =
    let within = bar_within (length c.args.ends.now) c.args.bars.now c.requires.bars c.loop-bar.bar-index c.loop-bar-test.true in
    omega (arith, within, c.loop-bar.invariant.all)

pub loop-bar-preserved : goal.loop-bar-preserved
loop-bar-preserved c =
    let bars = c.args.bars.now in
    let ends = c.args.ends.now in
    let k = c.loop-bar.bar-index in
    let bar = get_or bars k no_bar in
    let within = bar_within (length ends) bars c.requires.bars k c.loop-bar-test.true in
    fitted_next bars ends c.requires.bars c.requires.ends k bar (get_or ends bar.lane None) c.loop-bar.columns.items _ c.loop-bar.taken.items _
    (bar_there bars k c.loop-bar-test.true) (slice_get-get_or ends bar.lane None within) c.put_lane.ensures.all c.in_ok-put_lane.ensures.put c.loop-bar.invariant

pub all_columns-requires : goal.all_columns-requires
all_columns-requires c = rw c.deref.ensures.value
    (each_stands c.args.bars.now c.args.ends.now c.requires.bars c.requires.ends c.loop-bar.bar-index c.loop-bar.columns.items c.loop-bar.taken.items
    c.loop-bar-test.false c.loop-bar.invariant)

pub returns : goal.returns
returns c =
    all_fitted c.args.bars.now c.args.ends.now c.requires.bars c.requires.ends c.loop-bar.bar-index c.loop-bar.columns.items c.loop-bar.taken.items c.loop-bar.invariant
    c.in_ok-of_lanes.of_lanes.items (c.in_ok-of_lanes.ensures ∙ c.deref.ensures.value) c.requires.many c.len-count.result
    (omega (arith, c.len-count.ensures, c.loop-bar.taken.ok.0))
