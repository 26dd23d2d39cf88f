use Rattle.labels.proofs.Rendering.{each_step, each_last}
use Rattle.labels.proofs.shapes.append_each.Goals as goal

pub loop-item-preserved : goal.loop-item-preserved
loop-item-preserved g c =
    let l = c.loop-item in
    each_step (g.S.Shape.shape c.args.shapes.now) c.args.items.now l.item-index c.item-item.result l.page.items _ _ c.loop-item-test.true
    c.item-item.is l.invariant c.in_ok-append.ensures

pub returns : goal.returns
returns g c =
    let l = c.loop-item in
    each_last (g.S.Shape.shape c.args.shapes.now) c.args.items.now l.item-index l.page.items _ c.loop-item-test.false l.invariant
