-- The log of a client: its calls in the order in which it made them, as the records of the halls
-- have them.
use Rattle.std.specs.Prelude.{ℕ, ◌≡◌, ◌<◌, ◌↔◌, ◌==◌, List, Some, slice_get}
use Rattle.std.specs.List.{filter}
use Rattle.tag.specs.declared.actions.Action.{Action}
use Rattle.tag.specs.declared.actions.Returned.{Returned}
use Rattle.tag.specs.declared.numbers.OpId.{OpId}
use Rattle.recorder.specs.declared.part.Response.{Response}
use Rattle.recorder.specs.declared.row.Row.{Row}
use Rattle.recorder.specs.declared.row.Row.TheVariants.{Invoke, Respond}
use Rattle.recorder.specs.declared.log_entry.Entry.{Entry}

-- the entry is what the rows say of the client's call: where it was invoked, and where and how it
-- was answered, if it was
pub record IsLogged (rows : List Row) (client : ℕ) (entry : Entry) : Type 0 where
  pub begun : slice_get rows entry.invoked ≡ Some (Invoke entry.op client entry.key entry.action)
  pub answered : (place : ℕ) (returned : Returned)
      → (entry.response ≡ Some (record { place = place; returned = returned }))
      ↔ (slice_get rows place ≡ Some (Respond entry.op returned))

-- the entries are the client's calls in the rows, all of them, in order of their invocations
pub record IsLog (rows : List Row) (client : ℕ) (log : List Entry) : Type 0 where
  pub each : (k : ℕ) (entry : Entry) → slice_get log k ≡ Some entry → IsLogged rows client entry
  pub all : (place : ℕ) (op : OpId) (key : List ℕ) (action : Action) → slice_get rows place
      ≡ Some (Invoke op client key action) → (k : ℕ) × (entry : Entry)
      × (slice_get log k ≡ Some entry) × (entry.invoked ≡ place)
  pub ordered : (i j : ℕ) (a b : Entry) → i < j → slice_get log i ≡ Some a → slice_get log j
      ≡ Some b → a.invoked < b.invoked

-- the entries of one hall
abbrev pub of_hall : ℕ → List Entry → List Entry
of_hall hall log = filter (λ entry. entry.hall == hall) log

-- each of the calls has its answer
abbrev pub AreAnswered : List Entry → Type 0
AreAnswered log = (k : ℕ) (entry : Entry) → slice_get log k ≡ Some entry → (response : Response)
    × (entry.response ≡ Some response)
