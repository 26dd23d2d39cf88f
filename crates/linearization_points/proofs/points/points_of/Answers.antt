use Rattle.std.proofs.Common.{max, ap, sym, ◌∙◌, Some}
use Rattle.std.proofs.lemmas.Option.{slice_get-get_or, get_or_from_slice_get}
use Rattle.linearization_points.proofs.RunningPoints.{reached_more}
use Rattle.linearization_points.proofs.points.points_of.Goals as goal

pub invoked-requires : goal.invoked-requires
invoked-requires c =
    let known = c.requires.known c.loop-op.op-index c.loop-op-test.true in
    let number = get_or_from_slice_get c.args.order.now c.loop-op.op-index known.0.op (record { 0 = 0 }) known.1.listed in
    (known.0, known.1.recorded, sym number)

pub loop-op-preserved : goal.loop-op-preserved
loop-op-preserved c =
    let part = c.args.part.now in
    let order = c.args.order.now in
    let i = c.loop-op.op-index in
    let found = c.invoked.ensures in
    let at = slice_get-get_or order i (record { 0 = 0 }) c.loop-op-test.true in
    let is = c.max-latest.ensures ∙ ap (max c.loop-op.latest) found.3 in
    reached_more part order c.len-sequence.ensures.sequence c.requires.apart c.requires.kept i c.loop-op.latest _
    c.loop-op.points.items _ found.0 is c.in_ok-push.ensures.items (record { listed = at ∙ ap Some (sym found.2); recorded = found.1 })
    c.loop-op.invariant
