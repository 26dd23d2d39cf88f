-- What shows by values alone that calls have no order.
use Rattle.std.specs.Prelude.{ℕ, ◌≡◌, ◌≢◌, ◌⊎◌, List, Some, None, Contains}
use Rattle.tag.specs.declared.actions.Action.TheVariants.{Write}
use Rattle.tag.specs.declared.actions.Returned.TheVariants.{Value}
use Rattle.recorder.specs.declared.part.Call.{Call}
use Rattle.recorder.specs.declared.part.Response.{Response}
use Rattle.recorder.specs.Parts.{Precedes}
use Rattle.recorder.specs.Sound.{IsRead, IsWrite}
use Rattle.value_order.specs.Writers.{AnswersValue, AnswersNothing, IsWriter, IsInDoubt}

-- 3: a read answers nothing, and a write, or a read that answers a value, precedes it
abbrev pub ShowsValue : Call → Type 0
ShowsValue call = IsWrite call ⊎ ((value : List ℕ) × AnswersValue call value)

pub record IsLateNothing (earlier later : Call) : Type 0 where
  pub shows : ShowsValue earlier
  pub nothing : AnswersNothing later
  pub precedes : Precedes earlier later

module _ (part : List Call) where
  -- 1: a read answers what no write of the part writes
  pub record AnswersUnwritten (read : Call) : Type 0 where
    pub response : Response
    pub reads : IsRead read
    pub responds : read.response ≡ Some response
    pub some : response.returned ≢ Value None
    pub unwritten : (write : Call) (value : List ℕ) → Contains part write
        → write.action ≡ Write value → response.returned ≢ Value (Some value)

  -- 2: a read answers what the write writes, but was answered before any write of it began
  pub record EndsTooEarly (write read : Call) : Type 0 where
    pub value : List ℕ
    pub writes : write.action ≡ Write value
    pub answered : AnswersValue read value
    pub early : (other : Call) → IsWriter part other read → ⊥

  -- a write between: the first write precedes it, and it precedes the read
  pub record IsBetween (write between read : Call) : Type 0 where
    pub recorded : Contains part between
    pub writes : IsWrite between
    pub after : Precedes write between
    pub before : Precedes between read

  -- each of its writers was overwritten before the read began
  pub record IsStaleValue (read : Call) : Type 0 where
    pub writer : Call
    pub has : IsWriter part writer read
    pub overwritten : (write : Call) → IsWriter part write read
        → (between : Call) × IsBetween write between read

  -- a write ended before a read began that answers nothing
  pub record IsStaleNothing (read : Call) : Type 0 where
    pub nothing : AnswersNothing read
    pub write : Call
    pub recorded : Contains part write
    pub writes : IsWrite write
    pub precedes : Precedes write read

  -- a read that answers what was overwritten before it began
  abbrev pub IsStale : Call → Type 0
  IsStale read = IsStaleValue read ⊎ IsStaleNothing read

  -- 5: a read in doubt is stale, whichever of its writers it has
  abbrev pub IsStaleDoubt : Call → Type 0
  IsStaleDoubt read = IsInDoubt part read × IsStaleValue read
