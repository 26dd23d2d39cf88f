use Rattle.std.proofs.Common.{sym, ◌∙◌}
use Rattle.cli.proofs.AnyNote.{hall_noted, hall_unnoted}
use Rattle.cli.proofs.notes.have_notes.Goals as goal

pub loop-own-preserved : goal.loop-own-preserved
loop-own-preserved c =
    hall_unnoted _ c.args.parts.now c.loop-own.own-index c.own-item.result c.loop-own-test.true c.own-item.is (sym c.hall_has_note.ensures ∙ c.if-hall_has_note.false)
    c.loop-own.invariant

pub returns-then-hall_has_note : goal.returns-then-hall_has_note
returns-then-hall_has_note c =
    sym (hall_noted _ c.args.parts.now c.loop-own.own-index c.own-item.result c.loop-own-test.true c.own-item.is (sym c.hall_has_note.ensures ∙ c.if-hall_has_note.true))
