use Rattle.std.proofs.Common.{arith, ◌∙◌}
use Rattle.scenes.proofs.Overlaps.{under_way_with, so_far_more, most_at_end}
use Rattle.scenes.proofs.overlap.most_by_ends.Goals as goal

pub overflow_sub-k : goal.overflow_sub-k
overflow_sub-k c =
    let call = c.call.result in
    let gone = c.count_up_to-answered.ensures ∙ c.requires.ends call.invoked in
    omega (arith, gone, under_way_with c.args.part.now c.len-k-end.ensures.sequence c.loop-k.k call c.call.ensures)

pub loop-k-preserved : goal.loop-k-preserved
loop-k-preserved c =
    let call = c.call.result in
    let gone = c.count_up_to-answered.ensures ∙ c.requires.ends call.invoked in
    so_far_more c.args.part.now c.len-k-end.ensures.sequence c.loop-k.k c.loop-k.most _ _ call c.call.ensures gone c.max-most.ensures
    c.loop-k.invariant

pub returns : goal.returns
returns c = most_at_end c.args.part.now c.len-k-end.ensures.sequence c.loop-k.k c.loop-k.most
    (omega (arith, c.loop-k-test.false, c.len-k-end.ensures.count)) c.loop-k.invariant
