use Rattle.std.proofs.Common.{◌<◌, Some, length, sym, ◌∙◌, ap, subst, arith}
use Rattle.std.proofs.lemmas.Option.{slice_get-get_or}
use Rattle.tag.specs.declared.numbers.OpId.{OpId}
use Rattle.tag.proofs.Lists.{get_at}
use Rattle.tag_check.specs.Least.{IsLeastCall}
use Rattle.tag_check.proofs.Calls.{first_here, none_more, none_all}
use Rattle.value_order.specs.declared.sources.Source.TheVariants as source
use Rattle.value_order.specs.Faults.{AnswersUnwritten}
use Rattle.value_order.proofs.FirstFaults.{unwritten_is}
use Rattle.value_order.proofs.faults.first_unwritten.Goals as goal

pub returns-in-Unwritten : goal.returns-in-Unwritten
returns-in-Unwritten c =
    let part = c.args.part.now in
    let i = c.loop-i.i in
    let op = c.op.ensures in
    let within : i < length c.args.sources.now = omega (arith, c.loop-i-test.true, c.len-i-end.ensures.count, c.requires.all) in
    let is = c.requires.each i op.0 source.Unwritten op.1 (slice_get-get_or c.args.sources.now i _ within ∙ ap Some c.in-Unwritten.is) in
    subst (λ (o : OpId). IsLeastCall part (AnswersUnwritten part) o) (sym op.2) (first_here part c.len-i-end.ensures.sequence (AnswersUnwritten part) i op.0 op.1 is c.loop-i.invariant)

pub loop-i-preserved : goal.loop-i-preserved
loop-i-preserved c =
    let part = c.args.part.now in
    let i = c.loop-i.i in
    let inside : i < length part = omega (arith, c.loop-i-test.true, c.len-i-end.ensures.count) in
    let within : i < length c.args.sources.now = omega (arith, inside, c.requires.all) in
    let call = get_at part i inside in
    none_more part (AnswersUnwritten part) i call.0 call.1 (λ u. c.in_default.not-Unwritten (unwritten_is part call.0 _ (c.requires.each i call.0 _ call.1 (slice_get-get_or c.args.sources.now i _ within)) u)) c.loop-i.invariant

pub returns : goal.returns
returns c = none_all c.args.part.now (AnswersUnwritten c.args.part.now) c.loop-i.i (omega (arith, c.loop-i-test.false, c.len-i-end.ensures.count)) c.loop-i.invariant
