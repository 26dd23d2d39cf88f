use Rattle.std.proofs.Common.{◌<◌, Some, inr, length, ◌∙◌, ap, arith}
use Rattle.std.proofs.lemmas.Option.{slice_get-get_or}
use Rattle.tag.proofs.Lists.{get_at}
use Rattle.value_order.proofs.ReadSources.{numbered}
use Rattle.value_order.proofs.StaleReads.{not_stale}
use Rattle.value_order.proofs.stale.overwriter_at.Goals as goal

pub returns-in_default : goal.returns-in_default
returns-in_default c =
    let call = get_at c.args.part.now c.args.i c.requires.inside in
    let within : c.args.i < length c.args.classes.now = omega (arith, c.requires.inside, c.requires.classes.all) in
    (call.0, call.1, not_stale c.args.part.now c.args.classes.now c.requires.classes c.args.i call.0 _ call.1 (slice_get-get_or c.args.classes.now c.args.i _ within) c.in_default.not-Answers)

pub offset_bounds-slowest-first : goal.offset_bounds-slowest-first
offset_bounds-slowest-first c =
    let within : c.args.i < length c.args.classes.now = omega (arith, c.requires.inside, c.requires.classes.all) in
    let at = slice_get-get_or c.args.classes.now c.args.i _ within ∙ ap Some c.in-Answers.is in
    let small : c.in-Answers.first < length c.args.classes.now = numbered c.args.part.now c.args.classes.now c.requires.classes c.args.i c.in-Answers.first (inr at) in
    let h : c.in-Answers.first < length c.args.slowest.now = omega (arith, small, c.requires.classes.all, c.requires.slowest.all) in
    omega (arith, h)

pub bounds-slowest-first : goal.bounds-slowest-first
bounds-slowest-first c =
    let within : c.args.i < length c.args.classes.now = omega (arith, c.requires.inside, c.requires.classes.all) in
    let at = slice_get-get_or c.args.classes.now c.args.i _ within ∙ ap Some c.in-Answers.is in
    let small : c.in-Answers.first < length c.args.classes.now = numbered c.args.part.now c.args.classes.now c.requires.classes c.args.i c.in-Answers.first (inr at) in
    omega (arith, small, c.requires.classes.all, c.requires.slowest.all)

pub overwriter-requires-clause-slowest : goal.overwriter-requires-clause-slowest
overwriter-requires-clause-slowest c =
    let within : c.args.i < length c.args.classes.now = omega (arith, c.requires.inside, c.requires.classes.all) in
    let at = slice_get-get_or c.args.classes.now c.args.i _ within ∙ ap Some c.in-Answers.is in
    let small : c.in-Answers.first < length c.args.classes.now = numbered c.args.part.now c.args.classes.now c.requires.classes c.args.i c.in-Answers.first (inr at) in
    let h : c.in-Answers.first < length c.args.slowest.now = omega (arith, small, c.requires.classes.all, c.requires.slowest.all) in
    c.requires.slowest.each c.in-Answers.first _ (slice_get-get_or c.args.slowest.now c.in-Answers.first _ h)

pub overwriter-requires-clause-next : goal.overwriter-requires-clause-next
overwriter-requires-clause-next c =
    let within : c.args.i < length c.args.classes.now = omega (arith, c.requires.inside, c.requires.classes.all) in
    let at = slice_get-get_or c.args.classes.now c.args.i _ within ∙ ap Some c.in-Answers.is in
    let h : c.args.i < length c.args.nexts.now = omega (arith, within, c.requires.nexts.all) in
    c.requires.nexts.each c.args.i c.in-Answers.first _ (inr at) (slice_get-get_or c.args.nexts.now c.args.i _ h)
