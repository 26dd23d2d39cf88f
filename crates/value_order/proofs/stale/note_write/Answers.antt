use Rattle.std.proofs.Common.{◌<◌, Some, None, length, sym, ◌∙◌, ap, arith}
use Rattle.std.proofs.lemmas.Option.{same_Some, slice_get-get_or}
use Rattle.value_order.specs.declared.classes.Class.TheVariants as class
use Rattle.value_order.specs.Ended.{IsSlowest}
use Rattle.value_order.proofs.StaleTables.{slowest_kept, slowest_more, value_within}
use Rattle.value_order.proofs.stale.note_write.Goals as goal

pub offset_bounds-slowest-first : goal.offset_bounds-slowest-first
offset_bounds-slowest-first c =
    let within : c.args.i < length c.args.classes.now = omega (arith, c.requires.inside, c.requires.classes.all) in
    let h : c.in-Writes.first < length c.args.slowest.now = value_within c.args.part.now c.args.classes.now c.requires.classes c.args.slowest.now c.requires.slowest.all c.args.i c.in-Writes.first (slice_get-get_or c.args.classes.now c.args.i _ within ∙ ap Some c.in-Writes.is) in
    omega (arith, h)

pub slice_copy_out-slower : goal.slice_copy_out-slower
slice_copy_out-slower c =
    let within : c.args.i < length c.args.classes.now = omega (arith, c.requires.inside, c.requires.classes.all) in
    value_within c.args.part.now c.args.classes.now c.requires.classes c.args.slowest.now c.requires.slowest.all c.args.i c.in-Writes.first (slice_get-get_or c.args.classes.now c.args.i _ within ∙ ap Some c.in-Writes.is)

pub slower-requires-clause-slowest : goal.slower-requires-clause-slowest
slower-requires-clause-slowest c slow e =
    let within : c.args.i < length c.args.classes.now = omega (arith, c.requires.inside, c.requires.classes.all) in
    let h = value_within c.args.part.now c.args.classes.now c.requires.classes c.args.slowest.now c.requires.slowest.all c.args.i c.in-Writes.first (slice_get-get_or c.args.classes.now c.args.i _ within ∙ ap Some c.in-Writes.is) in
    let s : IsSlowest c.args.part.now c.args.classes.now c.in-Writes.first c.args.i (Some slow) = c.requires.slowest.each c.in-Writes.first (Some slow) (slice_get-get_or c.args.slowest.now c.in-Writes.first None h ∙ ap Some e) in
    omega (arith, s.0, c.requires.inside)

pub offset_bounds-slowest-first-in-Writes : goal.offset_bounds-slowest-first-in-Writes
offset_bounds-slowest-first-in-Writes c =
    let within : c.args.i < length c.args.classes.now = omega (arith, c.requires.inside, c.requires.classes.all) in
    let h : c.in-Writes.first < length c.args.slowest.now = value_within c.args.part.now c.args.classes.now c.requires.classes c.args.slowest.now c.requires.slowest.all c.args.i c.in-Writes.first (slice_get-get_or c.args.classes.now c.args.i _ within ∙ ap Some c.in-Writes.is) in
    omega (arith, h)

pub bounds-slowest-first : goal.bounds-slowest-first
bounds-slowest-first c =
    let within : c.args.i < length c.args.classes.now = omega (arith, c.requires.inside, c.requires.classes.all) in
    value_within c.args.part.now c.args.classes.now c.requires.classes c.args.slowest.now c.requires.slowest.all c.args.i c.in-Writes.first (slice_get-get_or c.args.classes.now c.args.i _ within ∙ ap Some c.in-Writes.is)

pub returns-in-Writes : goal.returns-in-Writes
returns-in-Writes c =
    let within : c.args.i < length c.args.classes.now = omega (arith, c.requires.inside, c.requires.classes.all) in
    let at = slice_get-get_or c.args.classes.now c.args.i _ within ∙ ap Some c.in-Writes.is in
    let h = value_within c.args.part.now c.args.classes.now c.requires.classes c.args.slowest.now c.requires.slowest.all c.args.i c.in-Writes.first at in
    slowest_more c.args.part.now c.args.classes.now c.args.i c.args.slowest.now c.requires.slowest c.in-Writes.first c.slower.result _ c.requires.inside at (slice_get-get_or c.args.slowest.now c.in-Writes.first None h) c.slower.ensures

pub returns-in_default : goal.returns-in_default
returns-in_default c =
    let within : c.args.i < length c.args.classes.now = omega (arith, c.requires.inside, c.requires.classes.all) in
    slowest_kept c.args.part.now c.args.classes.now c.args.i c.args.slowest.now c.requires.slowest (λ first is. c.in_default.not-Writes first (same_Some _ (class.Writes first) (sym (slice_get-get_or c.args.classes.now c.args.i _ within) ∙ is)))
