use Rattle.std.proofs.Common.{List, get_or, subst, arith}
use Rattle.std.proofs.lemmas.List.{take_all}
use Rattle.tag.proofs.Lists.{item_at}
use Rattle.scenes.specs.Ends.{AreReaching}
use Rattle.scenes.specs.declared.scene.Dot.{Dot}
use Rattle.scenes.proofs.Ending.{dot_there, dot_within, no_dot, reaching_next, reaching_none}
use Rattle.scenes.proofs.ends.reach_dots.Goals as goal

pub loop-dot-init : goal.loop-dot-init
loop-dot-init c = reaching_none c.args.bars.now.items

pub index-bar-requires : goal.index-bar-requires
index-bar-requires c =
    let within = dot_within c.args.dots.now c.args.bars.now.items c.loop-dot.bars.items c.loop-dot.dot-index c.loop-dot-test.true c.requires c.loop-dot.invariant in
    omega (arith, within, c.loop-dot.bars.ok.0)

pub index_mut-requires : goal.index_mut-requires
index_mut-requires c =
    let within = dot_within c.args.dots.now c.args.bars.now.items c.loop-dot.bars.items c.loop-dot.dot-index c.loop-dot-test.true c.requires c.loop-dot.invariant in
    omega (arith, within, c.loop-dot.bars.ok.0)

pub loop-dot-preserved : goal.loop-dot-preserved
loop-dot-preserved c =
    let dots = c.args.dots.now in
    let old = c.args.bars.now.items in
    let now = c.loop-dot.bars.items in
    let k = c.loop-dot.dot-index in
    let dot = get_or dots k no_dot in
    let bar = c.index-bar.result.now in
    let inside = dot_within dots old now k c.loop-dot-test.true c.requires c.loop-dot.invariant in
    reaching_next dots k dot (dot_there dots k c.loop-dot-test.true) old now bar c.reached.result (item_at now dot.bar bar inside c.index-bar.ensures)
    c.reached.ensures c.loop-dot.invariant

pub returns : goal.returns
returns c = subst (λ (l : List Dot). AreReaching l c.args.bars.now.items c.loop-dot.bars.items)
    (take_all c.loop-dot.dot-index c.args.dots.now c.loop-dot-test.false) c.loop-dot.invariant
