-- Tables that say which write a read has read, where several wrote the value that it answers.
use Rattle.std.specs.Prelude.{ℕ, ◌≡◌, ◌≢◌, ◌<◌, ◌⊎◌, List, Some, Contains}
use Rattle.recorder.specs.declared.part.Call.{Call}
use Rattle.recorder.specs.declared.part.Response.{Response}
use Rattle.recorder.specs.Parts.{IsCompleted}
use Rattle.recorder.specs.Sound.{IsRead}
use Rattle.value_order.specs.Families.{IsOfFamily, IsAnsweredBy, MustPrecedeBy}
use Rattle.value_order.specs.Writers.{AnswersValue, AnswersNothing, IsWriter}

module _ (part : List Call) (Reads : Call → Call → Type 0) where
  -- write u was overwritten by write w before the place: its family must precede that of w, of
  -- which a call was answered by the row, before that place
  pub record IsOverwrittenBy (row place : ℕ) (w u : Call) : Type 0 where
    pub apart : u ≢ w
    pub precedes : MustPrecedeBy part Reads row u w
    pub call : Call
    pub of : IsOfFamily part Reads w call
    pub ended : IsAnsweredBy row call
    pub before : ended.response.place < place

  -- by a row before the read was answered, the write was overwritten before the read began
  pub record IsPassed (read u : Call) : Type 0 where
    pub response : Response
    pub responds : read.response ≡ Some response
    pub row : ℕ
    pub early : row < response.place
    pub w : Call
    pub overwritten : IsOverwrittenBy row read.invoked w u

  -- the write is a writer of the read, and each other writer of it was passed
  pub record HasRead (write read : Call) : Type 0 where
    pub writer : IsWriter part write read
    pub passed : (other : Call) → IsWriter part other read → (other ≡ write) ⊎ IsPassed read other

  -- so it is of each read and its write
  pub record AreReads : Type 0 where
    pub recorded : (write read : Call) → Reads write read → Contains part read
    pub each : (write read : Call) → Reads write read → HasRead write read

  -- a read answers a value of which each writer was passed, or which has none
  pub record IsUnreadable (read : Call) : Type 0 where
    pub recorded : Contains part read
    pub value : List ℕ
    pub answered : AnswersValue read value
    pub passed : (other : Call) → IsWriter part other read → IsPassed read other

  -- each completed read answers nothing, or has read a write
  abbrev pub AreAllRead : Type 0
  AreAllRead = (read : Call) → Contains part read → IsRead read → IsCompleted read
      → AnswersNothing read ⊎ ((write : Call) × Reads write read)
