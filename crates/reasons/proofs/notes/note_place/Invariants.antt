use Rattle.std.proofs.Common.{◌≡◌, drop}
use Rattle.std.specs.List.{position_from}
use Rattle.reasons.specs.Notes.{is_note_of, note_place}
use Rattle.reasons.proofs.notes.note_place.Given as goal

abbrev pub invariant-loop-place : goal.invariant-loop-place
invariant-loop-place l = position_from (is_note_of l.call.op) l.place (drop l.place l.history.rows) ≡ note_place l.history.rows l.call
