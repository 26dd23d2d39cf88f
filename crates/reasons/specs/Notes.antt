-- Where the rows of a history note a call.
use Rattle.std.specs.Prelude.{ℕ, ◌≡◌, List, Option, Some, None, Bool, false, nat_eq, drop}
use Rattle.std.specs.Prelude.{slice_get}
use Rattle.std.specs.List.{position_from}
use Rattle.tag.specs.declared.numbers.OpId.{OpId}
use Rattle.tag.specs.Tags.{Tag}
use Rattle.recorder.specs.declared.row.Row.{Row}
use Rattle.recorder.specs.declared.row.Row.TheVariants.{Invoke, Note, Respond}
use Rattle.recorder.specs.declared.part.Call.{Call}

-- the row is a note of that call
abbrev pub is_note_of : OpId → Row → Bool
is_note_of op (Invoke o client key action) = false
is_note_of op (Note o tag) = nat_eq o.0 op.0
is_note_of op (Respond o returned) = false

-- the first place of a note of the call from that one on, if the call is noted with a tag
abbrev pub note_place_from : List Row → ℕ → OpId → Option Tag → Option ℕ
note_place_from rows start op None = None
note_place_from rows start op (Some tag) = position_from (is_note_of op) start (drop start rows)

-- the place of a call's note: the first after its invocation, if it has one
abbrev pub note_place : List Row → Call → Option ℕ
note_place rows call = note_place_from rows call.invoked call.op call.note

-- the row at the place notes the call with its tag; none: it has none
abbrev pub IsNotePlace : List Row → Call → Option ℕ → Type 0
IsNotePlace rows call None = call.note ≡ None
IsNotePlace rows call (Some place) = (tag : Tag) × (call.note ≡ Some tag)
    × (slice_get rows place ≡ Some (Note call.op tag))
