-- What a change of what is known means for each part, each table and each row.
use Rattle.std.specs.Prelude.{ℕ, ◌≡◌, ◌+◌, ◌⊎◌, List, Option, Some, None}
use Rattle.tag.specs.declared.actions.Action.TheVariants.{Write}
use Rattle.recorder.specs.declared.part.Call.{Call}
use Rattle.recorder.specs.Orders.{IsLinearizable}
use Rattle.recorder.specs.Sound.{IsRead, IsWrite}
use Rattle.value_order.specs.Tables.{ReadsBy}
use Rattle.value_order.specs.Writers.{AnswersNothing, AnswersValue}
use Rattle.kept_families.specs.Continued.{AreOpenIn, Extends}
use Rattle.key_monitor.specs.Follows.{FollowsKept, KeyState}
use Rattle.key_monitor.specs.Judged.{AnswersCall, BeginsCall, LeavesOut}
use Rattle.monitored_key.specs.declared.judged.Judged.{Judged}
use Rattle.monitored_key.specs.declared.judged.Judged.TheVariants.{Passes, Undecided, Refused}

-- a read was answered with that value, or that there is none
abbrev pub Answers : Call → Option (List ℕ) → Type 0
Answers read None = AnswersNothing read
Answers read (Some value) = AnswersValue read value

module _ (old new : KeyState) where
  -- the new state follows the calls with a read more, which began there
  abbrev pub FollowsReadBegun : ℕ → Type 0
  FollowsReadBegun place = (before after : List Call) (source : ℕ → Option ℕ) (row : ℕ)
      (call : Call) → FollowsKept before source row old → BeginsCall row place before after call
      → AreOpenIn row before after → IsRead call → FollowsKept after source place new

  -- with a write more, of that number and value
  abbrev pub FollowsWriteBegun : ℕ → List ℕ → ℕ → Type 0
  FollowsWriteBegun number value place = (before after : List Call) (source : ℕ → Option ℕ)
      (row : ℕ) (call : Call) → FollowsKept before source row old
      → BeginsCall row place before after call → AreOpenIn row before after
      → call.op.0 ≡ number → call.action ≡ Write value → FollowsKept after source place new

  -- with the answer of the write of that number
  abbrev pub FollowsWriteEnded : ℕ → ℕ → Type 0
  FollowsWriteEnded number place = (before after : List Call) (source : ℕ → Option ℕ)
      (row : ℕ) (call : Call) → FollowsKept before source row old
      → AnswersCall row place before after call → AreOpenIn row before after → IsWrite call
      → call.op.0 ≡ number → FollowsKept after source place new

  -- without the pending read that began there, where the next row comes right after the row
  abbrev pub FollowsWithout : ℕ → ℕ → Type 0
  FollowsWithout begin next = (before after : List Call) (source : ℕ → Option ℕ) (row : ℕ)
      (read : Call) → row + 1 ≡ next → FollowsKept before source row old
      → LeavesOut row before after read → read.invoked ≡ begin
      → FollowsKept after source row new

-- by a table with an entry of the read at most, the state follows the calls; the read answers
-- nothing, or the table says what it has read
pub record FollowsRead (after : List Call) (source : ℕ → Option ℕ) (row place : ℕ) (read : Call)
    (new : KeyState) : Type 0 where
  pub later : ℕ → Option ℕ
  pub extends : Extends row after source later
  pub follows : FollowsKept after later place new
  pub reads : AnswersNothing read ⊎ ((write : Call) × ReadsBy after later write read)

-- what is said of the calls with the read's answer holds: the state follows them, or they have no
-- order
abbrev pub HoldsOf : List Call → (ℕ → Option ℕ) → ℕ → ℕ → Call → KeyState → Judged → Type 0
HoldsOf after source row place read new Passes = FollowsRead after source row place read new
HoldsOf after source row place read new (Undecided one two) = FollowsKept after source place new
HoldsOf after source row place read new (Refused refusal) = IsLinearizable after → ⊥

-- the answer of a read that began there is judged right
abbrev pub JudgesRead : KeyState → KeyState → ℕ → Option (List ℕ) → ℕ → Judged → Type 0
JudgesRead old new begin value place judged = (before after : List Call)
    (source : ℕ → Option ℕ) (row : ℕ) (read : Call) → FollowsKept before source row old
    → AnswersCall row place before after read → AreOpenIn row before after
    → read.invoked ≡ begin → Answers read value
    → HoldsOf after source row place read new judged
