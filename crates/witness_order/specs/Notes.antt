-- Notes that completed calls lack.
use Rattle.std.specs.Prelude.{◌≡◌, ◌<◌, List, Some, None, Contains}
use Rattle.tag.specs.declared.numbers.OpId.{OpId}
use Rattle.tag.specs.Tags.{Tag}
use Rattle.recorder.specs.declared.part.Call.{Call}
use Rattle.recorder.specs.Parts.{IsCompleted}

-- a call with a note
abbrev pub IsNotedCall : Call → Type 0
IsNotedCall call = (tag : Tag) × (call.note ≡ Some tag)

-- each completed call has a note
abbrev pub AllNoted : List Call → Type 0
AllNoted part = (call : Call) → Contains part call → IsCompleted call → IsNotedCall call

-- the call of that number is completed and has no note, and each completed call of a lower number
-- has one
pub record IsLeastUnnoted (part : List Call) (op : OpId) : Type 0 where
  pub call : Call
  pub recorded : Contains part call
  pub number : call.op ≡ op
  pub completed : IsCompleted call
  pub unnoted : call.note ≡ None
  pub least : (other : Call) → Contains part other → IsCompleted other → other.op.0 < op.0
      → IsNotedCall other
