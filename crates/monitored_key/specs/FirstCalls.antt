-- The first call of a key.
use Rattle.std.specs.Prelude.{ℕ, ◌≡◌, List, None, Contains}
use Rattle.recorder.specs.declared.part.Call.{Call}
use Rattle.recorder.specs.Parts.{IsSequence}

-- the part has that call alone, which began at the place and has no answer
pub record IsFirstCall (part : List Call) (place : ℕ) (call : Call) : Type 0 where
  pub sequence : IsSequence part
  pub recorded : Contains part call
  pub only : (other : Call) → Contains part other → other ≡ call
  pub at : call.invoked ≡ place
  pub pending : call.response ≡ None
