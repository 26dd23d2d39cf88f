use Rattle.std.proofs.Common.{List, ap, ◌∙◌}
use Rattle.scenes.specs.declared.scene.Dot.{Dot}
use Rattle.pictures.specs.Dots.{corners}
use Rattle.pictures.proofs.Rendering.{corners_step, corners_last}
use Rattle.pictures.proofs.path.corners_of.Goals as goal

pub loop-index-preserved : goal.loop-index-preserved
loop-index-preserved c =
    corners_step c.args.scene.now c.deref-dot-items.result.now c.loop-index.index _ c.loop-index.all.items _ _ c.loop-index-test.true c.loop-index.invariant
    c.in_ok-add_corner.ensures

pub returns : goal.returns
returns c =
    corners_last c.args.scene.now c.deref-dot-items.result.now c.loop-index.index c.loop-index.all.items _ c.loop-index-test.false c.loop-index.invariant
    ∙ ap (λ (xs : List Dot). corners c.args.scene.now 0 xs) c.deref-dot-items.ensures.value
