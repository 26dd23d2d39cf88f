use Rattle.labels.proofs.Rendering.{each_below_none, each_below_step}
use Rattle.pictures.specs.Paper.{paper_strip}
use Rattle.pictures.proofs.paper.append_strips.Goals as goal

pub loop-strip-init : goal.loop-strip-init
loop-strip-init c = each_below_none (paper_strip c.args.picture.now) c.args.page.now.items

pub loop-strip-preserved : goal.loop-strip-preserved
loop-strip-preserved c =
    each_below_step (paper_strip c.args.picture.now) c.loop-strip.strip c.args.page.now.items c.loop-strip.page.items _ c.loop-strip.invariant
    c.in_ok-append_strip.ensures
