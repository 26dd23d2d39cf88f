use Rattle.std.proofs.Common.{◌<◌, Some, length, ap, ◌∙◌, arith}
use Rattle.std.proofs.lemmas.Option.{slice_get_within, slice_get-get_or}
use Rattle.tag.proofs.Lists.{get_at}
use Rattle.value_order.specs.declared.classes.Class.TheVariants as class
use Rattle.value_order.proofs.sources.source_at.Goals as goal

pub returns-in-Writes : goal.returns-in-Writes
returns-in-Writes c =
    let call = get_at c.args.part.now c.args.i c.requires.inside in
    let within : c.args.i < length c.args.classes.now = omega (arith, c.requires.inside, c.requires.classes.all) in
    let h = c.requires.classes.each c.args.i call.0 (class.Writes c.in-Writes.field-0) call.1 (slice_get-get_or c.args.classes.now c.args.i _ within ∙ ap Some c.in-Writes.is) in
    (call.0, call.1, (h.0, h.1))

pub source_of_read-requires-clause-first : goal.source_of_read-requires-clause-first
source_of_read-requires-clause-first c =
    let call = get_at c.args.part.now c.args.i c.requires.inside in
    let within : c.args.i < length c.args.classes.now = omega (arith, c.requires.inside, c.requires.classes.all) in
    let h = c.requires.classes.each c.args.i call.0 (class.Answers c.in-Answers.first) call.1 (slice_get-get_or c.args.classes.now c.args.i _ within ∙ ap Some c.in-Answers.is) in
    omega (arith, slice_get_within c.args.part.now c.in-Answers.first h.2.write h.2.at, c.requires.classes.all, c.requires.nexts.all)

pub returns-in-Unwritten : goal.returns-in-Unwritten
returns-in-Unwritten c =
    let call = get_at c.args.part.now c.args.i c.requires.inside in
    let within : c.args.i < length c.args.classes.now = omega (arith, c.requires.inside, c.requires.classes.all) in
    (call.0, call.1, c.requires.classes.each c.args.i call.0 class.Unwritten call.1 (slice_get-get_or c.args.classes.now c.args.i _ within ∙ ap Some c.in-Unwritten.is))

pub returns-in-Nothing : goal.returns-in-Nothing
returns-in-Nothing c =
    let call = get_at c.args.part.now c.args.i c.requires.inside in
    let within : c.args.i < length c.args.classes.now = omega (arith, c.requires.inside, c.requires.classes.all) in
    (call.0, call.1, c.requires.classes.each c.args.i call.0 class.Nothing call.1 (slice_get-get_or c.args.classes.now c.args.i _ within ∙ ap Some c.in-Nothing.is))

pub returns-in-Pending : goal.returns-in-Pending
returns-in-Pending c =
    let call = get_at c.args.part.now c.args.i c.requires.inside in
    let within : c.args.i < length c.args.classes.now = omega (arith, c.requires.inside, c.requires.classes.all) in
    (call.0, call.1, c.requires.classes.each c.args.i call.0 class.Pending call.1 (slice_get-get_or c.args.classes.now c.args.i _ within ∙ ap Some c.in-Pending.is))
