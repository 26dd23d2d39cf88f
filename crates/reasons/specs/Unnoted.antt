-- The write without a note that a read may have read.
use Rattle.std.specs.Prelude.{◌≡◌, ◌≤◌, List, Option, Some, None}
use Rattle.recorder.specs.declared.part.Call.{Call}
use Rattle.recorder.specs.Parts.{IsPending}
use Rattle.value_order.specs.Writers.{IsWriter}

module _ (part : List Call) where
  -- a writer of the read that has neither a response nor a note
  abbrev pub IsUnnotedWriter : Call → Call → Type 0
  IsUnnotedWriter write read = IsWriter part write read × IsPending write × (write.note ≡ None)

  -- the first of these, by invocation; none: the read has none
  abbrev pub IsFirstUnnoted : Call → Option Call → Type 0
  IsFirstUnnoted read None = (write : Call) → IsUnnotedWriter write read → ⊥
  IsFirstUnnoted read (Some write) = IsUnnotedWriter write read
      × ((other : Call) → IsUnnotedWriter other read → write.invoked ≤ other.invoked)
