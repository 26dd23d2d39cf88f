use Rattle.std.proofs.Common.{ℕ, ◌≡◌, length, subst, sym, arith}
use Rattle.scenes.specs.FirstFit.{AreInLanes}
use Rattle.scenes.proofs.InLanes.{in_lanes}
use Rattle.scenes.proofs.scene.scene_of.Goals as goal

pub lane_columns-requires : goal.lane_columns-requires
lane_columns-requires c =
    let lanes = c.in_ok-lanes.lanes.items in
    let dotted = c.in_ok-dotted.ensures in
    let bars = c.in_ok-dotted.dotted.bars.items in
    let size : c.len.result ≡ length lanes = omega (arith, c.len.ensures, c.in_ok-lanes.lanes.ok.0) in
    rw c.deref-2.ensures.value (subst (λ (n : ℕ). AreInLanes n bars) (sym size)
    (in_lanes c.args.part.now c.args.shown.now c.args.history.now.rows lanes bars c.len-sequence.ensures.sequence c.requires c.in_ok-lanes.ensures
    (rw c.deref.ensures.value at dotted.bars) c.in_ok-dotted.dotted.dots.items (rw c.deref.ensures.value at dotted.ends)))

pub columns_of-requires-clause-each : goal.columns_of-requires-clause-each
columns_of-requires-clause-each c = rw c.deref-4.ensures.value c.in_ok-of_lanes.ensures.each
