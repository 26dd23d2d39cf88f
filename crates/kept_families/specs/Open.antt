-- Reads that a later row may still answer.
use Rattle.std.specs.Prelude.{ℕ, ◌≡◌, ◌≤◌, ◌+◌, ◌⊎◌, List, Contains}
use Rattle.recorder.specs.declared.part.Call.{Call}
use Rattle.recorder.specs.Sound.{IsRead}
use Rattle.value_order.specs.Families.{IsAnsweredBy}

-- a read of the part that no row up to that one answers: it is pending there, or begins later
pub record IsOpen (part : List Call) (row : ℕ) (read : Call) : Type 0 where
  pub recorded : Contains part read
  pub reads : IsRead read
  pub unanswered : IsAnsweredBy row read → ⊥

-- the least place at which an open read began; the next row's, if no lower one is
pub record IsFirstOpen (part : List Call) (row place : ℕ) : Type 0 where
  pub least : (read : Call) → IsOpen part row read → place ≤ read.invoked
  pub next : place ≤ row + 1
  pub reached : (place ≡ row + 1)
      ⊎ ((read : Call) × IsOpen part row read × (read.invoked ≡ place))
