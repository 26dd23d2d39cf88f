-- Parts as lists of calls' numbers.
use Rattle.std.specs.Prelude.{ℕ, ◌≡◌, ◌<◌, List, [], Option, Some, None, map, length, slice_get}
use Rattle.std.specs.List.{zip}
use Rattle.recorder.specs.declared.part.Call.{Call}
use Rattle.recorder.specs.declared.record.CallState.{CallState}
use Rattle.recorder.specs.declared.record.Record.{Record}
use Rattle.recorder.specs.KeptCalls.{AreKept}
use Rattle.recorder.specs.Parts.{IsSequence}
use Rattle.recorder.specs.States.{AreStates, call_of}
use Rattle.recorder.specs.Tables.{BeginsOn}

-- the calls of these numbers
abbrev pub calls_of : Record → List ℕ → List Call
calls_of from numbers = map (call_of from.rows.texts from.states.items) numbers

-- the record has calls of these numbers, and they are a sequence
pub record HasCalls (of : Record) (numbers : List ℕ) : Type 0 where
  pub states : AreStates of.rows.rows of.states.items
  pub kept : AreKept of.rows of.states.items
  pub begun : (k number : ℕ) → slice_get numbers k ≡ Some number → number < length of.states.items
  pub sequence : IsSequence (calls_of of numbers)

-- the same; without a record there is no call
abbrev pub part_of : Option Record → List ℕ → List Call
part_of None numbers = []
part_of (Some from) numbers = calls_of from numbers

-- the numbers are of calls that the record has
abbrev pub IsPartOf : Option Record → List ℕ → Type 0
IsPartOf None numbers = numbers ≡ []
IsPartOf (Some from) numbers = HasCalls from numbers

-- each key with its part, whose calls have the numbers of its group
abbrev pub entries_of : Record → List (List ℕ) → List (List ℕ × List Call)
entries_of from groups = zip from.rows.keys (map (calls_of from) groups)

-- a group for each key that the record has numbered, of calls that it has
pub record AreEntries (of : Record) (groups : List (List ℕ)) : Type 0 where
  pub all : length groups ≡ length of.rows.keys
  pub each : (key : ℕ) (numbers : List ℕ) → slice_get groups key ≡ Some numbers
      → HasCalls of numbers

-- the number of each call's key
pub record AreKeyNumbers (of : Record) (numbers : List ℕ) : Type 0 where
  pub all : length numbers ≡ length of.states.items
  pub each : (k number : ℕ) (state : CallState) → slice_get numbers k ≡ Some number
      → slice_get of.states.items k ≡ Some state → BeginsOn of.rows state.invoked number
