-- Pending reads, and those of them that are given up.
use Rattle.std.specs.Prelude.{ℕ, ◌≡◌, ◌<◌, ◌≤◌, ◌+◌, List, Option, Some, IsSome}
use Rattle.std.specs.Prelude.{length, slice_get, Contains}
use Rattle.tag.specs.declared.actions.Action.TheVariants.{Read}
use Rattle.tag.specs.declared.actions.Returned.{Returned}
use Rattle.tag.specs.declared.numbers.OpId.{OpId}
use Rattle.recorder.specs.declared.row.Row.{Row}
use Rattle.recorder.specs.declared.row.Row.TheVariants.{Invoke, Respond}
use Rattle.recorder.specs.Histories.{HasResponse}

-- the rows begin that read, and none of so many rows after its own answers it
pub record WasPendingFor (most : ℕ) (rows : List Row) (op : OpId) : Type 0 where
  pub begin : ℕ
  pub client : ℕ
  pub key : List ℕ
  pub begins : slice_get rows begin ≡ Some (Invoke op client key Read)
  pub long : begin + most < length rows
  pub unanswered : (place : ℕ) (returned : Returned)
      → slice_get rows place ≡ Some (Respond op returned) → begin + most < place

-- each of these numbers is that of a read which was pending for so many rows
abbrev pub AreGivenUp : ℕ → List Row → List ℕ → Type 0
AreGivenUp most rows gone = (op : OpId) → Contains gone op.0 → WasPendingFor most rows op

module _ (rows : List Row) (keys : List (List ℕ)) (gone : List ℕ) where
  -- a pending read of the key of that number began there, and it isn't given up
  pub record IsWaiting (begin number : ℕ) : Type 0 where
    pub op : OpId
    pub client : ℕ
    pub key : List ℕ
    pub begins : slice_get rows begin ≡ Some (Invoke op client key Read)
    pub key_is : slice_get keys number ≡ Some key
    pub pending : HasResponse rows op → ⊥
    pub stays : Contains gone op.0 → ⊥

  -- the places at which such reads began, each with the number of its key
  pub record AreWaiting (reads : ℕ → Option ℕ) : Type 0 where
    pub each : (begin number : ℕ) → reads begin ≡ Some number → IsWaiting begin number
    pub all : (begin : ℕ) (op : OpId) (client : ℕ) (key : List ℕ)
        → slice_get rows begin ≡ Some (Invoke op client key Read) → (HasResponse rows op → ⊥)
        → (Contains gone op.0 → ⊥) → IsSome (reads begin)

-- none of them was pending for more than so many of those rows
abbrev pub AreRecent : ℕ → ℕ → (ℕ → Option ℕ) → Type 0
AreRecent most place reads =
    (begin number : ℕ) → reads begin ≡ Some number → place ≤ begin + most
