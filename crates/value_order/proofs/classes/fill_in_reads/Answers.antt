use Rattle.std.proofs.Common.{◌<◌, Some, length, get_or, ◌∙◌, ap, arith}
use Rattle.std.proofs.lemmas.Option.{slice_get-get_or}
use Rattle.value_order.specs.declared.classes.Class.TheVariants as class
use Rattle.value_order.specs.Classes.{IsWriteClass}
use Rattle.value_order.proofs.CallClasses.{open_reads, filled_same, filled_more, all_filled}
use Rattle.value_order.proofs.classes.fill_in_reads.Goals as goal
use Rattle.value_order.proofs.classes.fill_in_reads.Goals.{in-Pending, in_default}

pub class_of_read-requires-clause-read : goal.class_of_read-requires-clause-read
class_of_read-requires-clause-read c =
    let l = c.loop-i in
    let inside : l.i < length l.classes = omega (arith, c.loop-i-test.true, c.len-i-end.ensures.count, l.invariant.all) in
    let pending : IsWriteClass c.args.part.now l.i class.Pending = l.invariant.left l.i class.Pending (omega arith) (slice_get-get_or l.classes l.i _ inside ∙ ap Some c.in-Pending.is) in
    open_reads c.args.part.now l.i pending

pub loop-i-preserved : goal.loop-i-preserved
loop-i-preserved c =
    let l = c.loop-i in
    let inside : l.i < length l.classes = omega (arith, c.loop-i-test.true, c.len-i-end.ensures.count, l.invariant.all) in
    let at = slice_get-get_or l.classes l.i (class.Writes 0) inside in
    elim c.match-classes-i.branch [
      | in-Pending w ↦ rw w.classes-is (filled_more c.args.part.now l.i l.classes l.invariant (get_or l.classes l.i (class.Writes 0)) at w.class_of_read.result w.class_of_read.ensures inside)
      | in_default w ↦ rw w.classes-is (filled_same c.args.part.now l.i l.classes l.invariant (get_or l.classes l.i (class.Writes 0)) at w.in_default.not-Pending)
    ]

pub returns : goal.returns
returns c = all_filled c.args.part.now c.loop-i.i c.loop-i.classes (omega (arith, c.loop-i-test.false, c.len-i-end.ensures.count)) c.loop-i.invariant
