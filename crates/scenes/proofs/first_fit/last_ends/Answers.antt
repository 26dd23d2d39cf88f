use Rattle.std.proofs.Common.{List, get_or, length, subst, ◌<◌, arith}
use Rattle.std.proofs.lemmas.List.{take_all}
use Rattle.tag.proofs.Lists.{item_at}
use Rattle.scenes.specs.FirstFit.{AreLastEnds}
use Rattle.scenes.specs.declared.scene.Bar.{Bar}
use Rattle.scenes.proofs.FirstFits.{bar_there, bar_within, last_ends_more, no_bar, no_last_ends}
use Rattle.scenes.proofs.first_fit.last_ends.Goals as goal

pub loop-bar-init : goal.loop-bar-init
loop-bar-init c = no_last_ends c.args.lanes c.in_ok-ends.ends.items c.in_ok-ends.ensures.all c.in_ok-ends.ensures.each

pub index-requires : goal.index-requires
index-requires c =
    let within = bar_within c.args.lanes c.args.bars.now c.requires c.loop-bar.bar-index c.loop-bar-test.true in
    omega (arith, within, c.loop-bar.invariant.all, c.loop-bar.ends.ok.0)

pub index_mut-requires : goal.index_mut-requires
index_mut-requires c =
    let within = bar_within c.args.lanes c.args.bars.now c.requires c.loop-bar.bar-index c.loop-bar-test.true in
    omega (arith, within, c.loop-bar.invariant.all, c.loop-bar.ends.ok.0)

pub loop-bar-preserved : goal.loop-bar-preserved
loop-bar-preserved c =
    let bars = c.args.bars.now in
    let k = c.loop-bar.bar-index in
    let ends = c.loop-bar.ends.items in
    let bar = get_or bars k no_bar in
    let own = c.index.result.now in
    let inside : bar.lane < length ends = omega (arith, bar_within c.args.lanes bars c.requires k c.loop-bar-test.true, c.loop-bar.invariant.all) in
    last_ends_more c.args.lanes bars k bar ends own c.later.result (bar_there bars k c.loop-bar-test.true) inside
    (item_at ends bar.lane own inside c.index.ensures) c.later.ensures.one c.later.ensures.other c.later.ensures.either c.loop-bar.invariant

pub returns : goal.returns
returns c = subst (λ (l : List Bar). AreLastEnds c.args.lanes l c.loop-bar.ends.items)
    (take_all c.loop-bar.bar-index c.args.bars.now c.loop-bar-test.false) c.loop-bar.invariant
