use Rattle.labels.proofs.Rendering.{each_from_step, each_from_last}
use Rattle.labels.proofs.shapes.append_each_indexed.Goals as goal

pub append-requires : goal.append-requires
append-requires g c = c.requires c.loop-index.index c.loop-index-test.true

pub loop-index-preserved : goal.loop-index-preserved
loop-index-preserved g c =
    let l = c.loop-index in
    each_from_step (g.S.IndexedShape.shape c.args.shapes.now) c.args.items.now l.index c.index-items-index.result l.page.items _ _ c.loop-index-test.true
    c.index-items-index.is l.invariant c.in_ok-append.ensures

pub returns : goal.returns
returns g c =
    let l = c.loop-index in
    each_from_last (g.S.IndexedShape.shape c.args.shapes.now) c.args.items.now l.index l.page.items _ c.loop-index-test.false l.invariant
