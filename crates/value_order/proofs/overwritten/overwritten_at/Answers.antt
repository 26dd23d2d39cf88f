use Rattle.std.proofs.Common.{◌<◌, Some, None, length, ◌∙◌, ap, arith}
use Rattle.std.proofs.lemmas.Option.{slice_get_within, slice_get-get_or}
use Rattle.tag.proofs.Lists.{get_at}
use Rattle.value_order.specs.declared.sources.Source.TheVariants as source
use Rattle.value_order.specs.Stales.{IsOverwriter}
use Rattle.value_order.proofs.FirstFaults.{doubt_is}
use Rattle.value_order.proofs.FirstOverwritten.{overwritten_at}
use Rattle.value_order.proofs.overwritten.overwritten_at.Goals as goal

pub returns-in_default : goal.returns-in_default
returns-in_default c call at d =
    let within : c.args.i < length c.args.sources.now = omega (arith, c.requires.inside, c.requires.sources.all) in
    let e = doubt_is c.args.part.now call _ (c.requires.sources.each c.args.i call _ at (slice_get-get_or c.args.sources.now c.args.i _ within)) d.0 in
    c.in_default.not-Doubt e.0 e.1 e.2

pub returns-in_err-between : goal.returns-in_err-between
returns-in_err-between c = rw c.from_residual.ensures (λ call at d.
    let within : c.args.i < length c.args.found.now = omega (arith, c.requires.inside, c.requires.found.all) in
    let none : IsOverwriter c.args.part.now call None = c.requires.found.each c.args.i call None at (slice_get-get_or c.args.found.now c.args.i _ within ∙ ap Some c.in_err-between.was) in
    none d.1)

pub doubt_at-doubt-requires-clause-first : goal.doubt_at-doubt-requires-clause-first
doubt_at-doubt-requires-clause-first c =
    let call = get_at c.args.part.now c.args.i c.requires.inside in
    let within : c.args.i < length c.args.sources.now = omega (arith, c.requires.inside, c.requires.sources.all) in
    let h = c.requires.sources.each c.args.i call.0 (source.Doubt c.in-Doubt.first c.in-Doubt.second) call.1 (slice_get-get_or c.args.sources.now c.args.i _ within ∙ ap Some c.in-Doubt.is) in
    slice_get_within c.args.part.now c.in-Doubt.first h.one h.at_one

pub doubt_at-doubt-requires-clause-second : goal.doubt_at-doubt-requires-clause-second
doubt_at-doubt-requires-clause-second c =
    let call = get_at c.args.part.now c.args.i c.requires.inside in
    let within : c.args.i < length c.args.sources.now = omega (arith, c.requires.inside, c.requires.sources.all) in
    let h = c.requires.sources.each c.args.i call.0 (source.Doubt c.in-Doubt.first c.in-Doubt.second) call.1 (slice_get-get_or c.args.sources.now c.args.i _ within ∙ ap Some c.in-Doubt.is) in
    slice_get_within c.args.part.now c.in-Doubt.second h.two h.at_two

pub op-call-requires : goal.op-call-requires
op-call-requires c =
    let call = get_at c.args.part.now c.args.i c.requires.inside in
    let within : c.args.i < length c.args.found.now = omega (arith, c.requires.inside, c.requires.found.all) in
    let o = c.requires.found.each c.args.i call.0 (Some c.in_ok-between.between) call.1 (slice_get-get_or c.args.found.now c.args.i _ within ∙ ap Some c.in_ok-between.was) in
    slice_get_within c.args.part.now c.in_ok-between.between o.between o.at

pub returns : goal.returns
returns c =
    let call = get_at c.args.part.now c.args.i c.requires.inside in
    let within : c.args.i < length c.args.sources.now = omega (arith, c.requires.inside, c.requires.sources.all) in
    let small : c.args.i < length c.args.found.now = omega (arith, c.requires.inside, c.requires.found.all) in
    let h = c.requires.sources.each c.args.i call.0 (source.Doubt c.in-Doubt.first c.in-Doubt.second) call.1 (slice_get-get_or c.args.sources.now c.args.i _ within ∙ ap Some c.in-Doubt.is) in
    let o = c.requires.found.each c.args.i call.0 (Some c.in_ok-between.between) call.1 (slice_get-get_or c.args.found.now c.args.i _ small ∙ ap Some c.in_ok-between.was) in
    overwritten_at c.args.part.now c.requires.sequence c.args.i c.in-Doubt.first c.in-Doubt.second c.in_ok-between.between call.0 c.doubt_at-doubt.result c.op-call.result call.1 h c.doubt_at-doubt.ensures o c.op-call.ensures
