use Rattle.std.proofs.Common.{◌≡◌, ◌<◌, Some, refl, length, sym, ◌∙◌, ap, subst, arith}
use Rattle.std.proofs.lemmas.Option.{slice_get-get_or, slice_get_within}
use Rattle.tag.specs.declared.numbers.OpId.{OpId}
use Rattle.tag.proofs.Lists.{get_at}
use Rattle.tag_check.specs.Least.{IsLeastPair, HasPartner}
use Rattle.tag_check.proofs.Calls.{none_more, none_all}
use Rattle.recorder.specs.declared.part.Call.{Call}
use Rattle.value_order.specs.declared.sources.Source.TheVariants as source
use Rattle.value_order.specs.Faults.{EndsTooEarly}
use Rattle.value_order.proofs.CallKinds.{call_at}
use Rattle.value_order.proofs.FirstFaults.{early_is, early_here}
use Rattle.value_order.proofs.faults.first_early.Goals as goal

pub op-requires : goal.op-requires
op-requires c =
    let part = c.args.part.now in
    let i = c.loop-i.i in
    let inside : i < length part = omega (arith, c.loop-i-test.true, c.len-i-end.ensures.count) in
    let within : i < length c.args.sources.now = omega (arith, inside, c.requires.all) in
    let call = get_at part i inside in
    let is = c.requires.each i call.0 (source.Early c.in-Early.write) call.1 (slice_get-get_or c.args.sources.now i _ within ∙ ap Some c.in-Early.is) in
    slice_get_within part c.in-Early.write is.write is.at

pub returns-in-Early : goal.returns-in-Early
returns-in-Early c =
    let part = c.args.part.now in
    let i = c.loop-i.i in
    let within : i < length c.args.sources.now = omega (arith, c.loop-i-test.true, c.len-i-end.ensures.count, c.requires.all) in
    let write = c.op.ensures in
    let read = c.op-in-Early.ensures in
    let is = c.requires.each i read.0 (source.Early c.in-Early.write) read.1 (slice_get-get_or c.args.sources.now i _ within ∙ ap Some c.in-Early.is) in
    let own : is.write.op ≡ c.op.result = ap (λ (x : Call). x.op) (call_at part c.in-Early.write c.in-Early.write is.write write.0 is.at write.1 refl) ∙ sym write.2 in
    subst (λ (a : OpId). IsLeastPair part (EndsTooEarly part) a c.op-in-Early.result) own (subst (λ (b : OpId). IsLeastPair part (EndsTooEarly part) is.write.op b) (sym read.2) (early_here part c.len-i-end.ensures.sequence i c.in-Early.write read.0 read.1 is c.loop-i.invariant))

pub loop-i-preserved : goal.loop-i-preserved
loop-i-preserved c =
    let part = c.args.part.now in
    let i = c.loop-i.i in
    let inside : i < length part = omega (arith, c.loop-i-test.true, c.len-i-end.ensures.count) in
    let within : i < length c.args.sources.now = omega (arith, inside, c.requires.all) in
    let call = get_at part i inside in
    none_more part (HasPartner part (EndsTooEarly part)) i call.0 call.1 (λ h. (let e = early_is part h.0 call.0 _ h.1 (c.requires.each i call.0 _ call.1 (slice_get-get_or c.args.sources.now i _ within)) h.2 in c.in_default.not-Early e.0 e.1)) c.loop-i.invariant

pub returns : goal.returns
returns c = none_all c.args.part.now (HasPartner c.args.part.now (EndsTooEarly c.args.part.now)) c.loop-i.i (omega (arith, c.loop-i-test.false, c.len-i-end.ensures.count)) c.loop-i.invariant
