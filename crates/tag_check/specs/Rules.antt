-- What breaks each rule of sound tags (Lynch and Shvartsman 1997): 1 `LacksNote`, 2 `IsLeastWrite`,
-- 3 `ShareTag`, 4 `IsNotAbove`, 5 `AnswersNoWrite`, 6 `AnswersOther`.
use Rattle.std.specs.Prelude.{ℕ, ◌≡◌, ◌≢◌, ◌<◌, ◌⊎◌, List, Option, Some, None, Contains}
use Rattle.tag.specs.declared.actions.Action.TheVariants.{Write}
use Rattle.tag.specs.declared.actions.Returned.TheVariants.{Value}
use Rattle.tag.specs.declared.numbers.OpId.{OpId}
use Rattle.tag.specs.Tags.{Tag, IsBelow, least}
use Rattle.recorder.specs.declared.part.Call.{Call}
use Rattle.recorder.specs.declared.part.Response.{Response}
use Rattle.recorder.specs.Parts.{IsCompleted, Precedes}
use Rattle.recorder.specs.Sound.{IsRead, IsWrite}
use Rattle.tag_check.specs.Least.{IsLeastCall}

-- a completed call without a note
abbrev pub LacksNote : Call → Type 0
LacksNote call = IsCompleted call × (call.note ≡ None)

-- a write noted with the tag
abbrev pub IsWriteOf : Call → Tag → Type 0
IsWriteOf call tag = IsWrite call × (call.note ≡ Some tag)

-- a write noted with the least tag
abbrev pub IsLeastWrite : Call → Type 0
IsLeastWrite call = IsWriteOf call least

-- two writes noted with one tag
abbrev pub ShareTag : Call → Call → Type 0
ShareTag earlier later =
    (tag : Tag) × (earlier.op.0 < later.op.0) × IsWriteOf earlier tag × IsWriteOf later tag

-- a call that is noted with t may not follow one that is noted with s
abbrev pub IsTooLow : Call → Tag → Tag → Type 0
IsTooLow later t s = IsBelow t s ⊎ (IsWrite later × (s ≡ t))

-- the later call began after the earlier one was answered, and is noted below it, or, as a write,
-- not above it
pub record IsNotAbove (earlier later : Call) : Type 0 where
  pub s : Tag
  pub t : Tag
  pub precedes : Precedes earlier later
  pub first : earlier.note ≡ Some s
  pub second : later.note ≡ Some t
  pub low : IsTooLow later t s

-- a read with a response, noted with the tag
abbrev pub IsAnsweredRead : Call → Tag → Type 0
IsAnsweredRead call tag = IsRead call × IsCompleted call × (call.note ≡ Some tag)

-- a read with a response is noted with a tag other than the least, which no write is noted with
pub record AnswersNoWrite (part : List Call) (read : Call) : Type 0 where
  pub tag : Tag
  pub answered : IsAnsweredRead read tag
  pub other : tag ≢ least
  pub unwritten : (write : Call) → Contains part write → IsWriteOf write tag → ⊥

-- the part's write of that number is noted with the tag, and writes the text
pub record IsWriteWith (part : List Call) (tag : Tag) (op : OpId) (text : List ℕ) : Type 0 where
  pub write : Call
  pub recorded : Contains part write
  pub number : write.op ≡ op
  pub noted : write.note ≡ Some tag
  pub writes : write.action ≡ Write text

-- what a tag stands for: absent where it is the least, which no call writes, and else the value of
-- the write that is noted with it
abbrev pub IsValueOf : List Call → Tag → Option OpId → Option (List ℕ) → Type 0
IsValueOf part tag None value = (tag ≡ least) × (value ≡ None)
IsValueOf part tag (Some op) value =
    (tag ≢ least) × (text : List ℕ) × IsWriteWith part tag op text × (value ≡ Some text)

-- a read with a response answers what its tag stands for
abbrev pub AnswersRight : List Call → Call → Type 0
AnswersRight part read =
    (tag : Tag) (write : Option OpId) (value : Option (List ℕ)) (response : Response)
    → IsRead read → read.note ≡ Some tag → read.response ≡ Some response
    → IsValueOf part tag write value → response.returned ≡ Value value

-- each read with a response does
abbrev pub AllAnswerRight : List Call → Type 0
AllAnswerRight part = (call : Call) → Contains part call → AnswersRight part call

-- a read with a response answers another value than its tag stands for
pub record AnswersOther (part : List Call) (read : Call) (write : Option OpId) : Type 0 where
  pub tag : Tag
  pub value : Option (List ℕ)
  pub response : Response
  pub reads : IsRead read
  pub noted : read.note ≡ Some tag
  pub responds : read.response ≡ Some response
  pub stands : IsValueOf part tag write value
  pub other : response.returned ≢ Value value

-- it does, whatever that value and its write
abbrev pub AnswersAnother : List Call → Call → Type 0
AnswersAnother part read = (write : Option OpId) × AnswersOther part read write

-- the read is the least numbered one that answers another value than its tag stands for, and the
-- write that of its tag
pub record IsOtherValue (part : List Call) (read : OpId) (write : Option OpId) : Type 0 where
  pub call : Call
  pub recorded : Contains part call
  pub number : call.op ≡ read
  pub first : IsLeastCall part (AnswersAnother part) read
  pub other : AnswersOther part call write
