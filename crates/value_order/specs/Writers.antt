-- Which write a read may have read: one of the value that it answers, which began no later than it
-- was answered (Gibbons and Korach 1997).
use Rattle.std.specs.Prelude.{ℕ, ◌≡◌, ◌≢◌, ◌≤◌, List, Some, None, Contains}
use Rattle.tag.specs.declared.actions.Action.TheVariants.{Write}
use Rattle.tag.specs.declared.actions.Returned.TheVariants.{Value}
use Rattle.recorder.specs.declared.part.Call.{Call}
use Rattle.recorder.specs.declared.part.Response.{Response}
use Rattle.recorder.specs.Sound.{IsRead}

-- a read that was answered with that value
pub record AnswersValue (read : Call) (value : List ℕ) : Type 0 where
  pub response : Response
  pub reads : IsRead read
  pub responds : read.response ≡ Some response
  pub answers : response.returned ≡ Value (Some value)

-- a read that was answered that there is none
pub record AnswersNothing (read : Call) : Type 0 where
  pub response : Response
  pub reads : IsRead read
  pub responds : read.response ≡ Some response
  pub answers : response.returned ≡ Value None

module _ (part : List Call) where
  -- a write of the value that the read answers, which began no later than the read was answered
  pub record IsWriter (write read : Call) : Type 0 where
    pub recorded : Contains part write
    pub value : List ℕ
    pub writes : write.action ≡ Write value
    pub answered : AnswersValue read value
    pub began : write.invoked ≤ answered.response.place

  -- the read has that writer and no other
  pub record IsOnlyWriter (write read : Call) : Type 0 where
    pub writer : IsWriter write read
    pub only : (other : Call) → IsWriter other read → other ≡ write

  -- the read has two writers
  pub record IsInDoubt (read : Call) : Type 0 where
    pub one : Call
    pub two : Call
    pub first : IsWriter one read
    pub second : IsWriter two read
    pub apart : one ≢ two

  -- no read has two
  abbrev pub HasOneWriter : Type 0
  HasOneWriter =
      (a b read : Call) → Contains part read → IsWriter a read → IsWriter b read → a ≡ b
