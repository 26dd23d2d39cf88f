use Rattle.std.proofs.Common.{◌<◌, length, arith}
use Rattle.tag.proofs.Lists.{get_at}
use Rattle.tag_check.proofs.Calls.{none_more, none_all}
use Rattle.value_order.specs.Faults.{IsStaleDoubt}
use Rattle.value_order.proofs.FirstOverwritten.{least_overwritten}
use Rattle.value_order.proofs.overwritten.first_overwritten.Goals as goal

pub returns-in-Some : goal.returns-in-Some
returns-in-Some c = least_overwritten c.args.part.now c.len-i-end.ensures.sequence c.loop-i.i c.in-Some.pair.0 c.in-Some.pair.1 c.in-Some.ensures c.loop-i.invariant

pub loop-i-preserved : goal.loop-i-preserved
loop-i-preserved c =
    let inside : c.loop-i.i < length c.args.part.now = omega (arith, c.loop-i-test.true, c.len-i-end.ensures.count) in
    let call = get_at c.args.part.now c.loop-i.i inside in
    none_more c.args.part.now (IsStaleDoubt c.args.part.now) c.loop-i.i call.0 call.1 (c.in_default.ensures call.0 call.1) c.loop-i.invariant

pub returns : goal.returns
returns c = none_all c.args.part.now (IsStaleDoubt c.args.part.now) c.loop-i.i (omega (arith, c.loop-i-test.false, c.len-i-end.ensures.count)) c.loop-i.invariant
