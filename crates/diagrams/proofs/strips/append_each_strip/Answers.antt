use Rattle.diagrams.specs.Strips.{strip_markup}
use Rattle.labels.proofs.Rendering.{each_below_none, each_below_step}
use Rattle.diagrams.proofs.strips.append_each_strip.Goals as goal

pub loop-strip-init : goal.loop-strip-init
loop-strip-init c = each_below_none (strip_markup c.args.scene.now) c.args.page.now.items

pub loop-strip-preserved : goal.loop-strip-preserved
loop-strip-preserved c =
    each_below_step (strip_markup c.args.scene.now) c.loop-strip.strip c.args.page.now.items c.loop-strip.page.items _ c.loop-strip.invariant
    c.in_ok-append.ensures
