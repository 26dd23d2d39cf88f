-- What a history keeps of each call beside its rows.
use Rattle.std.specs.Prelude.{ℕ, ◌≡◌, ◌↔◌, List, Option, Some, None, Bool, true, false, slice_get}
use Rattle.std.specs.Prelude.{length, Contains, get_or, sum_by, is_some, ◌+◌, if◌then◌else◌}
use Rattle.tag.specs.declared.actions.Action.{Action}
use Rattle.tag.specs.declared.actions.Action.TheVariants.{Read, Write}
use Rattle.tag.specs.declared.actions.Returned.{Returned}
use Rattle.tag.specs.declared.actions.Returned.TheVariants.{Value, Written}
use Rattle.tag.specs.declared.numbers.OpId.{OpId}
use Rattle.tag.specs.Tags.{Tag}
use Rattle.recorder.specs.declared.row.Row.{Row}
use Rattle.recorder.specs.declared.row.Row.TheVariants.{Invoke, Note, Respond}
use Rattle.recorder.specs.declared.record.CallState.{CallState}
use Rattle.recorder.specs.declared.part.Call.{Call}
use Rattle.recorder.specs.declared.part.Response.{Response}
use Rattle.recorder.specs.Histories.{call_count}
use Rattle.recorder.specs.Texts.{value_in}

-- whether the action is a write
abbrev pub is_write : Action → Bool
is_write Read = false
is_write (Write value) = true

-- the rows have a response of the call at that place
abbrev pub RespondsAt : List Row → OpId → ℕ → Type 0
RespondsAt rows op place =
    (returned : Returned) × (slice_get rows place ≡ Some (Respond op returned))

-- the state is that of the call: its client, its kind, its note, and the place of its response
pub record Describes (rows : List Row) (op : OpId) (state : CallState) : Type 0 where
  pub key : List ℕ
  pub action : Action
  pub invoked : slice_get rows state.invoked ≡ Some (Invoke op state.client key action)
  pub kind : state.is_write ≡ is_write action
  pub noted : (tag : Tag) → (state.note ≡ Some tag) ↔ Contains rows (Note op tag)
  pub answered : (place : ℕ) → (state.response ≡ Some place) ↔ RespondsAt rows op place

-- a state for each call
pub record AreStates (rows : List Row) (states : List CallState) : Type 0 where
  pub all : length states ≡ call_count rows
  pub each : (op : OpId) (state : CallState) → slice_get states op.0 ≡ Some state
      → Describes rows op state

-- how many rows there are of the call: its invocation, its note and its response
abbrev pub rows_of : CallState → ℕ
rows_of state =
    1 + (if is_some state.note then 1 else 0) + (if is_some state.response then 1 else 0)

-- how many rows there are of all these calls
abbrev pub row_count : List CallState → ℕ
row_count states = sum_by rows_of states

-- what a call of that kind with that value asks, and what it answers
abbrev pub action_by : Bool → Option (List ℕ) → Action
action_by true (Some value) = Write value
action_by true None = Read
action_by false value = Read

abbrev pub returned_by : Bool → Option (List ℕ) → Returned
returned_by true value = Written
returned_by false value = Value value

-- the response at that place, if there is one
abbrev pub response_at : Option ℕ → Returned → Option Response
response_at None returned = None
response_at (Some place) returned = Some (record { place = place; returned = returned })

-- the state of no call
abbrev pub no_state : CallState
no_state = record {
  client = 0;
  note = None;
  key = 0;
  is_write = false;
  invoked = 0;
  response = None;
  value = None;
}

-- the call of that number and that state
abbrev pub call_with : List ℕ → ℕ → CallState → Call
call_with texts number state = record {
  op = record { 0 = number };
  client = state.client;
  action = action_by state.is_write (value_in texts state.value);
  note = state.note;
  invoked = state.invoked;
  response = response_at state.response
      (returned_by state.is_write (value_in texts state.value));
}

-- the same, its state found by its number
abbrev pub call_of : List ℕ → List CallState → ℕ → Call
call_of texts states number = call_with texts number (get_or states number no_state)

-- the place of a response, if there is one
abbrev pub place_in : Option Response → Option ℕ
place_in None = None
place_in (Some response) = Some response.place

-- the state is that of the call: all that the call is but for its number and its texts
pub record IsStateOf (call : Call) (state : CallState) : Type 0 where
  pub client : state.client ≡ call.client
  pub kind : state.is_write ≡ is_write call.action
  pub note : state.note ≡ call.note
  pub invoked : state.invoked ≡ call.invoked
  pub response : state.response ≡ place_in call.response
