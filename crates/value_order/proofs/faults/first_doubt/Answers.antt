use Rattle.std.proofs.Common.{◌<◌, Some, length, ◌∙◌, ap, arith}
use Rattle.std.proofs.lemmas.Option.{slice_get-get_or, slice_get_within}
use Rattle.tag.proofs.Lists.{get_at}
use Rattle.tag_check.proofs.Calls.{none_more, none_all}
use Rattle.value_order.specs.declared.sources.Source.TheVariants as source
use Rattle.value_order.specs.Writers.{IsInDoubt}
use Rattle.value_order.proofs.FirstFaults.{doubt_is, least_doubt}
use Rattle.value_order.proofs.Members.{two_writers}
use Rattle.value_order.proofs.faults.first_doubt.Goals as goal

pub doubt_at-requires-clause-first : goal.doubt_at-requires-clause-first
doubt_at-requires-clause-first c =
    let part = c.args.part.now in
    let i = c.loop-i.i in
    let inside : i < length part = omega (arith, c.loop-i-test.true, c.len-i-end.ensures.count) in
    let within : i < length c.args.sources.now = omega (arith, inside, c.requires.all) in
    let call = get_at part i inside in
    let h = c.requires.each i call.0 (source.Doubt c.in-Doubt.first c.in-Doubt.second) call.1 (slice_get-get_or c.args.sources.now i _ within ∙ ap Some c.in-Doubt.is) in
    slice_get_within part c.in-Doubt.first h.one h.at_one

pub doubt_at-requires-clause-second : goal.doubt_at-requires-clause-second
doubt_at-requires-clause-second c =
    let part = c.args.part.now in
    let i = c.loop-i.i in
    let inside : i < length part = omega (arith, c.loop-i-test.true, c.len-i-end.ensures.count) in
    let within : i < length c.args.sources.now = omega (arith, inside, c.requires.all) in
    let call = get_at part i inside in
    let h = c.requires.each i call.0 (source.Doubt c.in-Doubt.first c.in-Doubt.second) call.1 (slice_get-get_or c.args.sources.now i _ within ∙ ap Some c.in-Doubt.is) in
    slice_get_within part c.in-Doubt.second h.two h.at_two

pub returns-in-Doubt : goal.returns-in-Doubt
returns-in-Doubt c =
    let part = c.args.part.now in
    let i = c.loop-i.i in
    let sequence = c.len-i-end.ensures.sequence in
    let inside : i < length part = omega (arith, c.loop-i-test.true, c.len-i-end.ensures.count) in
    let within : i < length c.args.sources.now = omega (arith, inside, c.requires.all) in
    let call = get_at part i inside in
    let h = c.requires.each i call.0 (source.Doubt c.in-Doubt.first c.in-Doubt.second) call.1 (slice_get-get_or c.args.sources.now i _ within ∙ ap Some c.in-Doubt.is) in
    least_doubt part sequence (IsInDoubt part) i c.in-Doubt.first c.in-Doubt.second call.0 c.doubt_at.result call.1 h c.doubt_at.ensures (two_writers part sequence call.0 c.in-Doubt.first c.in-Doubt.second h) c.loop-i.invariant

pub loop-i-preserved : goal.loop-i-preserved
loop-i-preserved c =
    let part = c.args.part.now in
    let i = c.loop-i.i in
    let inside : i < length part = omega (arith, c.loop-i-test.true, c.len-i-end.ensures.count) in
    let within : i < length c.args.sources.now = omega (arith, inside, c.requires.all) in
    let call = get_at part i inside in
    none_more part (IsInDoubt part) i call.0 call.1 (λ d. (let e = doubt_is part call.0 _ (c.requires.each i call.0 _ call.1 (slice_get-get_or c.args.sources.now i _ within)) d in c.in_default.not-Doubt e.0 e.1 e.2)) c.loop-i.invariant

pub returns : goal.returns
returns c = none_all c.args.part.now (IsInDoubt c.args.part.now) c.loop-i.i (omega (arith, c.loop-i-test.false, c.len-i-end.ensures.count)) c.loop-i.invariant
