-- What a JSON value says as a row of a history: first its members and their kinds, then their
-- ranges.
use Rattle.std.specs.Prelude.{ℕ, List, Option, Some, None, Result, Ok, Err, is_some, codes}
use Rattle.std.specs.Prelude.{bytes_eq, if◌then◌else◌}
use Rattle.serde_json.specs.Data.{Data}
use Rattle.serde_json.specs.Find.{get, as_str, as_null}
use Rattle.tag.specs.declared.actions.Action.{Action}
use Rattle.tag.specs.declared.actions.Action.TheVariants.{Read, Write}
use Rattle.tag.specs.declared.actions.Returned.{Returned}
use Rattle.tag.specs.declared.actions.Returned.TheVariants.{Value, Written}
use Rattle.recorder.specs.declared.row.Row.{Row}
use Rattle.recorder.specs.declared.row.Row.TheVariants.{Invoke, Note, Respond}
use Rattle.file_format.specs.declared.fault.LineFault.{LineFault}
use Rattle.file_format.specs.declared.fault.LineFault.TheVariants.{Member, Range}
use Rattle.counted_devices.specs.Answers.{◌>>=◌}
use Rattle.file_format.specs.Members.{text_at, number_at, needed_member, op_of, client_of}
use Rattle.file_format.specs.Members.{key_of, value_of, tag_of}

-- an invocation's row; `do` is one of two texts
unfoldable pub invocation_of : ℕ → ℕ → List ℕ → Action → Result Row LineFault
invocation_of call client key action = do
  op ← op_of call
  name ← client_of client
  text ← key_of key
  Ok (Invoke op name text action)

-- a write with the text that is the member `value`
unfoldable pub written_in : Data → Result Action LineFault
written_in d = do
  text ← needed_member (text_at (codes "value") d)
  value ← value_of text
  Ok (Write value)

-- the action of that name: `read`, or `write` with its value
unfoldable pub action_of : List ℕ → Data → Result Action LineFault
action_of action d = if bytes_eq action (codes "read") then Ok Read
    else if bytes_eq action (codes "write") then written_in d else Err Range

-- the invocation that the value says, or its fault
unfoldable pub invoke_in : Data → Result Row LineFault
invoke_in d = do
  call ← needed_member (number_at (codes "call") d)
  client ← needed_member (number_at (codes "client") d)
  key ← needed_member (text_at (codes "key") d)
  name ← needed_member (text_at (codes "do") d)
  action ← action_of name d
  invocation_of call client key action

-- the note that the value says, or its fault
unfoldable pub note_in : Data → Result Row LineFault
note_in d = do
  call ← needed_member (number_at (codes "call") d)
  number ← needed_member (number_at (codes "number") d)
  writer ← needed_member (number_at (codes "writer") d)
  op ← op_of call
  tag ← tag_of number writer
  Ok (Note op tag)

-- a response has no value, null, or a text
unfoldable pub answer_of : Option (List ℕ) → Result Returned LineFault
answer_of None = Err Member
answer_of (Some text) = do
  value ← value_of text
  Ok (Value (Some value))

-- a write's response has no such member; a read's is null or a text
unfoldable pub returned_of : Option Data → Result Returned LineFault
returned_of None = Ok Written
returned_of (Some d) = if is_some (as_null d) then Ok (Value None) else answer_of (as_str d)

-- the response that the value says, or its fault
unfoldable pub respond_in : Data → Result Row LineFault
respond_in d = do
  call ← needed_member (number_at (codes "call") d)
  returned ← returned_of (get (codes "value") d)
  op ← op_of call
  Ok (Respond op returned)

-- the row of that kind that the value says, or its fault
unfoldable pub row_of : List ℕ → Data → Result Row LineFault
row_of kind d = if bytes_eq kind (codes "invoke") then invoke_in d
    else if bytes_eq kind (codes "note") then note_in d else if bytes_eq kind (codes "respond")
    then respond_in d else Err Range

-- the row that the value says, or its fault
unfoldable pub row_in : Data → Result Row LineFault
row_in d = do
  kind ← needed_member (text_at (codes "row") d)
  row_of kind d
