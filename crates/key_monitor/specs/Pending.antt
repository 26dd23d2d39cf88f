-- Where the reads began that a later row may answer.
use Rattle.std.specs.Prelude.{ℕ, ◌≡◌, ◌≢◌, ◌≤◌, ◌+◌, List, Option, Some, None, IsSome}
use Rattle.recorder.specs.declared.part.Call.{Call}
use Rattle.kept_families.specs.Open.{IsOpen}

-- the places at which the open reads began, each with a number
pub record AreOpenAt (part : List Call) (row : ℕ) (opens : ℕ → Option ℕ) : Type 0 where
  pub each : (begin op : ℕ) → opens begin ≡ Some op
      → (read : Call) × IsOpen part row read × (read.invoked ≡ begin)
  pub all : (read : Call) → IsOpen part row read → IsSome (opens read.invoked)

-- the least of them; the next row's place, if there is none
pub record IsLeastPlace (opens : ℕ → Option ℕ) (row place : ℕ) : Type 0 where
  pub least : (begin op : ℕ) → opens begin ≡ Some op → place ≤ begin
  pub next : place ≤ row + 1
  pub reached : place ≢ row + 1 → IsSome (opens place)

-- with that one more
pub record HasOpen (opens : ℕ → Option ℕ) (begin op : ℕ) (new : ℕ → Option ℕ) : Type 0 where
  pub here : new begin ≡ Some op
  pub others : (other : ℕ) → other ≢ begin → new other ≡ opens other

-- without that one
pub record LacksOpen (opens : ℕ → Option ℕ) (begin : ℕ) (new : ℕ → Option ℕ) : Type 0 where
  pub here : new begin ≡ None
  pub others : (other : ℕ) → other ≢ begin → new other ≡ opens other
