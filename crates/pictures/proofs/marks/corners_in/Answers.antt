use Rattle.std.proofs.Common.{List, ap, ◌∙◌}
use Rattle.scenes.specs.declared.scene.Dot.{Dot}
use Rattle.pictures.specs.Marks.{corners_in}
use Rattle.pictures.proofs.Rendering.{corners_in_last, corners_in_step}
use Rattle.pictures.proofs.marks.corners_in.Goals as goal

pub loop-index-preserved : goal.loop-index-preserved
loop-index-preserved c =
    corners_in_step c.args.scene.now c.args.strip c.deref-dot-items.result.now c.loop-index.index _ c.loop-index.all.items _ _ c.loop-index-test.true
    c.loop-index.invariant c.in_ok-add_corner_in.ensures

pub returns : goal.returns
returns c =
    corners_in_last c.args.scene.now c.args.strip c.deref-dot-items.result.now c.loop-index.index c.loop-index.all.items _ c.loop-index-test.false
    c.loop-index.invariant
    ∙ ap (λ (xs : List Dot). corners_in c.args.scene.now c.args.strip 0 xs) c.deref-dot-items.ensures.value
