use Rattle.std.proofs.Common.{sym, ◌∙◌, arith}
use Rattle.reasons.specs.Notes.{is_note_of}
use Rattle.reasons.proofs.Positions.{first_here, first_later, first_past}
use Rattle.reasons.proofs.notes.note_place.Goals as goal

pub returns-then-is_note_of : goal.returns-then-is_note_of
returns-then-is_note_of c = sym (first_here (is_note_of c.args.call.now.op) c.args.history.now.rows c.loop-place.place c.row.result c.row.ensures (sym c.is_note_of.ensures ∙ c.if-is_note_of.true)) ∙ c.loop-place.invariant

pub loop-place-preserved : goal.loop-place-preserved
loop-place-preserved c = sym (first_later (is_note_of c.args.call.now.op) c.args.history.now.rows c.loop-place.place c.row.result c.row.ensures (sym c.is_note_of.ensures ∙ c.if-is_note_of.false)) ∙ c.loop-place.invariant

pub returns : goal.returns
returns c = sym (first_past (is_note_of c.args.call.now.op) c.args.history.now.rows c.loop-place.place (omega (arith, c.loop-place-test.false, c.row_count-place-end.ensures.count))) ∙ c.loop-place.invariant
