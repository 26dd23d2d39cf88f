-- Why a row may not stand after the earlier rows of its hall.
use Rattle.std.specs.Prelude.{ℕ, zero, suc, ◌==◌, List, [], ◌++◌, Bool, false, Option}
use Rattle.std.specs.Prelude.{Some, None, codes, decimal, length, slice_get, slice_index}
use Rattle.std.specs.Prelude.{if◌then◌else◌}
use Rattle.tag.specs.declared.actions.Action.{Action}
use Rattle.tag.specs.declared.actions.Action.TheVariants.{Read, Write}
use Rattle.recorder.specs.declared.row.Row.{Row}
use Rattle.recorder.specs.declared.row.Row.TheVariants.{Invoke, Note, Respond}
use Rattle.recorder.specs.Histories.{call_count}
use Rattle.file_format.specs.declared.fault.LineFault.{LineFault}
use Rattle.file_format.specs.declared.fault.LineFault.TheVariants.{CallOutOfTurn, ClientBusy}
use Rattle.file_format.specs.declared.fault.LineFault.TheVariants.{CallNotPending, WrongKind}
use Rattle.file_format.specs.declared.fault.LineFault.TheVariants.{NoteTwice}
use Rattle.fault_details.specs.declared.earlier_rows.Sought.{Sought}
use Rattle.fault_details.specs.declared.earlier_rows.Sought.TheVariants as sought
use Rattle.fault_details.specs.declared.earlier_rows.EarlierRows.{EarlierRows}

-- ---- a row that is looked for

-- the row begins a call of that client, or begins, notes or answers the call of that number
abbrev pub is_sought : Sought → Row → Bool
is_sought (sought.Client client) (Invoke op caller key action) = caller == client
is_sought (sought.Begun call) (Invoke op caller key action) = op.0 == call
is_sought (sought.Noted call) (Note op tag) = op.0 == call
is_sought (sought.Answered call) (Respond op returned) = op.0 == call
is_sought other row = false

-- there is such a row, and it is one that is looked for
abbrev pub is_sought_there : Sought → Option Row → Bool
is_sought_there what None = false
is_sought_there what (Some row) = is_sought what row

-- the last of so many places at which such a row stands
abbrev pub last_before : Sought → List Row → ℕ → Option ℕ
last_before what rows zero = None
last_before what rows (suc n) =
    if is_sought_there what (slice_get rows n) then Some n else last_before what rows n

-- the last place of all
abbrev pub last_place : Sought → List Row → Option ℕ
last_place what rows = last_before what rows (length rows)

-- ---- sentences

-- the line of the row at that place
abbrev pub line_at : EarlierRows → ℕ → ℕ
line_at earlier place = slice_index earlier.lines.now place

-- the hall, where a file has several
abbrev pub hall_text : Option ℕ → List ℕ
hall_text None = []
hall_text (Some hall) = codes " of hall " ++ decimal hall

-- which number the next call has
unfoldable pub next_text : EarlierRows → List ℕ
next_text earlier = codes "  the next call" ++ hall_text earlier.hall
    ++ codes " is " ++ decimal (call_count earlier.history.now.rows) ++ codes "\n"

-- the call, what is said of it, and a line
unfoldable pub call_at : ℕ → List ℕ → ℕ → List ℕ
call_at call words line = codes "  call " ++ decimal call ++ words ++ decimal line

-- the call has not begun
unfoldable pub unbegun_text : ℕ → List ℕ
unbegun_text call = codes "  call " ++ decimal call ++ codes " has not begun\n"

-- the client's call, begun at that line, has no answer yet
unfoldable pub busy_text : ℕ → ℕ → ℕ → List ℕ
busy_text client call line = codes "  client " ++ decimal client ++ codes " began call "
    ++ decimal call ++ codes " at line " ++ decimal line ++ codes ", which has no answer yet\n"

-- the call was noted with that number and that writer at that line
unfoldable pub noted_text : ℕ → ℕ → ℕ → ℕ → List ℕ
noted_text call number writer line = codes "  call " ++ decimal call ++ codes " was noted ("
    ++ decimal number ++ codes ", " ++ decimal writer ++ codes ") at line " ++ decimal line
    ++ codes "\n"

-- what the answer to a call of that action has
abbrev pub kind_text : ℕ → Action → ℕ → List ℕ
kind_text call Read line =
    call_at call (codes " is a read, begun at line ") line ++ codes ": its answer has \"value\"\n"
kind_text call (Write value) line =
    call_at call (codes " is a write, begun at line ") line
    ++ codes ": its answer has no \"value\"\n"

-- a sentence on a row that stands at that line: the call that it begins has no answer yet, or is of
-- another kind than its answer, or the row notes the call
abbrev pub busy_row : ℕ → Option Row → List ℕ
busy_row line (Some (Invoke op client key action)) = busy_text client op.0 line
busy_row line other = []

-- the same on the kind of the call
abbrev pub kind_row : ℕ → Option Row → List ℕ
kind_row line (Some (Invoke op client key action)) = kind_text op.0 action line
kind_row line other = []

-- the same on the call's note
abbrev pub noted_row : ℕ → Option Row → List ℕ
noted_row line (Some (Note op tag)) = noted_text op.0 tag.number tag.writer line
noted_row line other = []

module _ (earlier : EarlierRows) where
  -- a sentence on the row at the place, if there is one
  abbrev pub at_place : Option ℕ → (ℕ → Option Row → List ℕ) → List ℕ
  at_place None said = []
  at_place (Some place) said =
      said (line_at earlier place) (slice_get earlier.history.now.rows place)

  -- the call was answered, or it has not begun
  abbrev pub unasked_text : ℕ → Option ℕ → List ℕ
  unasked_text call None = unbegun_text call ++ next_text earlier
  unasked_text call (Some place) =
      call_at call (codes " was answered at line ") (line_at earlier place) ++ codes "\n"

  -- the last place at which such a row stands
  abbrev pub place_of : Sought → Option ℕ
  place_of what = last_place what earlier.history.now.rows

  -- why a row of that call and that client has the fault
  abbrev pub row_text : LineFault → ℕ → ℕ → List ℕ
  row_text CallOutOfTurn call client = next_text earlier
  row_text ClientBusy call client = at_place (place_of (sought.Client client)) busy_row
  row_text CallNotPending call client = unasked_text call (place_of (sought.Answered call))
  row_text WrongKind call client = at_place (place_of (sought.Begun call)) kind_row
  row_text NoteTwice call client = at_place (place_of (sought.Noted call)) noted_row
  row_text other call client = []
