-- A log beside the rows of a record, call by call.
use Rattle.std.specs.Prelude.{ℕ, ◌≡◌, ◌<◌, ◌↔◌, List, Some, slice_get}
use Rattle.tag.specs.declared.actions.Action.{Action}
use Rattle.tag.specs.declared.actions.Returned.{Returned}
use Rattle.tag.specs.declared.numbers.OpId.{OpId}
use Rattle.recorder.specs.declared.row.Row.{Row}
use Rattle.recorder.specs.declared.row.Row.TheVariants.{Invoke, Respond}
use Rattle.world_steps.specs.Sound.{At}
use Rattle.recorder.specs.declared.log_entry.Entry.{Entry}

-- the row is the invocation of a call of the client
abbrev pub IsInvocationBy : Row → ℕ → Type 0
IsInvocationBy row client =
    (op : OpId) × (key : List ℕ) × (action : Action) × (row ≡ Invoke op client key action)

-- the row is the invocation of the entry's call
abbrev pub IsInvocationOfEntry : Row → ℕ → Entry → Type 0
IsInvocationOfEntry row client entry = row ≡ Invoke entry.op client entry.key entry.action

-- the entry has the response that its call has in the rows, or neither has one
abbrev pub ResponseMatches : List Row → Entry → Type 0
ResponseMatches rows entry = (place : ℕ) (returned : Returned)
    → (entry.response ≡ Some (record { place = place; returned = returned }))
    ↔ At rows place (Respond entry.op returned)

-- the first so many entries are the client's calls that begin below that place, in order
pub record AreInvocations (rows : List Row) (client place : ℕ) (log : List Entry) (count : ℕ) :
    Type 0 where
  pub each : (k : ℕ) (entry : Entry) → k < count → slice_get log k ≡ Some entry
      → (entry.invoked < place) × At rows entry.invoked (Invoke entry.op client entry.key
      entry.action)
  pub all : (p : ℕ) (op : OpId) (key : List ℕ) (action : Action) → p < place
      → At rows p (Invoke op client key action) → (k : ℕ) × (entry : Entry)
      × (slice_get log k ≡ Some entry) × (entry.invoked ≡ p)
  pub ordered : (i j : ℕ) (a b : Entry) → i < j → j < count → slice_get log i ≡ Some a
      → slice_get log j ≡ Some b → a.invoked < b.invoked

-- the first so many entries have the responses that their calls have in the rows
abbrev pub ResponsesMatch : List Row → List Entry → ℕ → Type 0
ResponsesMatch rows log count =
    (k : ℕ) (entry : Entry) → k < count → slice_get log k ≡ Some entry → ResponseMatches rows entry
