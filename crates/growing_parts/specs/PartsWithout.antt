-- The calls of a key by the rows of a file, without the reads that were given up.
use Rattle.std.specs.Prelude.{ℕ, ◌≡◌, ◌≢◌, ◌<◌, ◌≤◌, ◌⊎◌, List, Some, slice_get, Contains}
use Rattle.tag.specs.declared.actions.Action.{Action}
use Rattle.tag.specs.declared.actions.Action.TheVariants.{Read}
use Rattle.tag.specs.declared.numbers.OpId.{OpId}
use Rattle.recorder.specs.declared.row.Row.{Row}
use Rattle.recorder.specs.declared.row.Row.TheVariants.{Invoke, Note, Respond}
use Rattle.recorder.specs.declared.part.Call.{Call}
use Rattle.recorder.specs.Records.{IsRecorded}
use Rattle.value_order.specs.Zones.{IsLastRow}

-- each of these numbers is of a read that the rows begin
abbrev pub AreReadsOf : List Row → List ℕ → Type 0
AreReadsOf rows gone = (op : OpId) → Contains gone op.0
    → (client : ℕ) × (key : List ℕ) × Contains rows (Invoke op client key Read)

module _ (rows : List Row) (key gone : List ℕ) where
  -- the part of a key without the calls of these numbers
  pub record IsPartWithout (part : List Call) : Type 0 where
    pub each : (call : Call) → Contains part call → IsRecorded rows key call
    pub none : (call : Call) → Contains part call → Contains gone call.op.0 → ⊥
    pub all : (place : ℕ) (op : OpId) (client : ℕ) (action : Action)
        → slice_get rows place ≡ Some (Invoke op client key action)
        → (Contains gone op.0 → ⊥) → (call : Call) × Contains part call × (call.invoked ≡ place)
    pub ordered : (i j : ℕ) (a b : Call) → i < j → slice_get part i ≡ Some a
        → slice_get part j ≡ Some b → a.invoked < b.invoked

  -- the call isn't one of that part: it was given up, or is on another key
  abbrev pub IsOutside : OpId → Type 0
  IsOutside op = Contains gone op.0 ⊎ ((client : ℕ) × (other : List ℕ) × (action : Action)
      × (other ≢ key) × Contains rows (Invoke op client other action))

  -- the row is of a call that isn't
  abbrev pub IsRowOutside : Row → Type 0
  IsRowOutside (Invoke op client other action) = other ≢ key
  IsRowOutside (Note op tag) = IsOutside op
  IsRowOutside (Respond op returned) = IsOutside op

-- each call began by the row, and each that is answered was answered by it
pub record StandsBy (part : List Call) (row : ℕ) : Type 0 where
  pub begun : (call : Call) → Contains part call → call.invoked ≤ row
  pub last : IsLastRow part row
