-- Tags that justify a record (Lynch and Shvartsman 1997): sorted by them, the calls of a part are
-- an order of it.
use Rattle.std.specs.Prelude.{ℕ, ◌≡◌, ◌≢◌, ◌<◌, ◌⊎◌, List, Some, None, length, Contains}
use Rattle.tag.specs.declared.actions.Action.TheVariants.{Read, Write}
use Rattle.tag.specs.declared.actions.Returned.TheVariants.{Value}
use Rattle.tag.specs.declared.numbers.OpId.{OpId}
use Rattle.tag.specs.Tags.{Tag, IsBelow, least}
use Rattle.recorder.specs.declared.part.Call.{Call}
use Rattle.recorder.specs.declared.part.Response.{Response}
use Rattle.recorder.specs.Parts.{IsCompleted, Precedes}
use Rattle.recorder.specs.Orders.{StandsAt}

-- a call that reads, a call that writes
abbrev pub IsRead : Call → Type 0
IsRead call = call.action ≡ Read

abbrev pub IsWrite : Call → Type 0
IsWrite call = (value : List ℕ) × (call.action ≡ Write value)

-- one of the part's calls, with that note
pub record IsNoted (part : List Call) (call : Call) (tag : Tag) : Type 0 where
  pub recorded : Contains part call
  pub noted : call.note ≡ Some tag

-- sound tags of a part
pub record TagSound (part : List Call) : Type 0 where
  -- each completed call has a note
  pub noted : (call : Call) → Contains part call → IsCompleted call → (tag : Tag)
      × (call.note ≡ Some tag)
  -- along precedence the tags don't fall, and they rise to a write
  pub rising : (a b : Call) (s t : Tag) → Precedes a b → IsNoted part a s → IsNoted part b t
      → IsBelow s t ⊎ (s ≡ t)
  pub rising_to_writes : (a b : Call) (s t : Tag) → IsWrite b → Precedes a b → IsNoted part a s
      → IsNoted part b t → IsBelow s t
  -- noted writes have distinct tags, all above the least
  pub distinct : (a b : Call) (tag : Tag) → IsWrite a → IsWrite b → IsNoted part a tag
      → IsNoted part b tag → a ≡ b
  pub above : (a : Call) (tag : Tag) → IsWrite a → IsNoted part a tag → IsBelow least tag
  -- a completed read with the least tag answers absent, any other the value of the noted write with
  -- its tag
  pub absent : (a : Call) (response : Response) → IsRead a → IsNoted part a least → a.response
      ≡ Some response → response.returned ≡ Value None
  pub answers : (a : Call) (response : Response) (tag : Tag) → IsRead a → IsNoted part a tag
      → tag ≢ least → a.response ≡ Some response → (write : Call) × (value : List ℕ)
      × IsNoted part write tag × (write.action ≡ Write value)
      × (response.returned ≡ Value (Some value))

-- a completed call, or a pending write with a note
abbrev pub IsSettled : Call → Type 0
IsSettled call = IsCompleted call ⊎ (IsWrite call × ((tag : Tag) × (call.note ≡ Some tag)))

-- call a comes before call b: by tag, a write before a read of one tag, then by invocation
abbrev pub ComesBefore : Call → Tag → Call → Tag → Type 0
ComesBefore a s b t = IsBelow s t ⊎ ((s ≡ t)
    × ((IsWrite a × IsRead b) ⊎ (((IsRead a × IsRead b) ⊎ (IsWrite a × IsWrite b))
    × (a.invoked < b.invoked))))

-- the tag order of a part: its settled calls, each with its note, by tag, a write before a read of
-- the same tag, then by place of invocation
pub record IsByTag (part : List Call) (order : List OpId) : Type 0 where
  pub known : (i : ℕ) → i < length order → (call : Call) × StandsAt part order i call
      × IsSettled call
  pub noted : (i : ℕ) (call : Call) → StandsAt part order i call → (tag : Tag)
      × (call.note ≡ Some tag)
  pub all : (call : Call) → Contains part call → IsSettled call → (i : ℕ)
      × StandsAt part order i call
  pub sorted : (i j : ℕ) (a b : Call) (s t : Tag) → i < j → StandsAt part order i a
      → StandsAt part order j b → a.note ≡ Some s → b.note ≡ Some t → ComesBefore a s b t
