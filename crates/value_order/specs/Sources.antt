-- What a call has read, by values alone.
use Rattle.std.specs.Prelude.{ℕ, ◌≡◌, ◌<◌, ◌≤◌, ◌⊎◌, List, Option, Some, None, length, slice_get}
use Rattle.std.specs.Prelude.{Bool, true, false}
use Rattle.recorder.specs.declared.part.Call.{Call}
use Rattle.recorder.specs.Parts.{IsPending}
use Rattle.recorder.specs.Sound.{IsRead, IsWrite}
use Rattle.value_order.specs.declared.sources.Source.{Source}
use Rattle.value_order.specs.declared.sources.Source.TheVariants as source
use Rattle.value_order.specs.Writers.{AnswersNothing, IsWriter, IsOnlyWriter}
use Rattle.value_order.specs.Faults.{AnswersUnwritten, EndsTooEarly}

module _ (part : List Call) where
  -- the only writer of the read stands at index k
  pub record HasOnlyWriter (read : Call) (k : ℕ) : Type 0 where
    pub write : Call
    pub at : slice_get part k ≡ Some write
    pub is : IsOnlyWriter part write read

  -- the two writers of the read with the least numbers stand at indexes k and m
  pub record HasLeastWriters (read : Call) (k m : ℕ) : Type 0 where
    pub one : Call
    pub two : Call
    pub at_one : slice_get part k ≡ Some one
    pub at_two : slice_get part m ≡ Some two
    pub less : k < m
    pub first : IsWriter part one read
    pub second : IsWriter part two read
    pub least : (j : ℕ) (other : Call) → slice_get part j ≡ Some other → IsWriter part other read
        → (j ≡ k) ⊎ (m ≤ j)

  -- the read was answered before any write of its value began, the first of which stands at k
  pub record EndsBefore (read : Call) (k : ℕ) : Type 0 where
    pub write : Call
    pub at : slice_get part k ≡ Some write
    pub is : EndsTooEarly part write read
    pub least : (j : ℕ) (other : Call) → slice_get part j ≡ Some other
        → EndsTooEarly part other read → k ≤ j

  -- the source of a call
  abbrev pub IsSource : Call → Source → Type 0
  IsSource call source.Write = IsWrite call
  IsSource call (source.Only k) = HasOnlyWriter call k
  IsSource call (source.Doubt k m) = HasLeastWriters call k m
  IsSource call (source.Early k) = EndsBefore call k
  IsSource call source.Unwritten = AnswersUnwritten part call
  IsSource call source.Nothing = AnswersNothing call
  IsSource call source.Pending = IsRead call × IsPending call

  -- beside each call its source
  pub record AreSources (sources : List Source) : Type 0 where
    pub all : length sources ≡ length part
    pub each : (i : ℕ) (call : Call) (from : Source) → slice_get part i ≡ Some call
        → slice_get sources i ≡ Some from → IsSource call from

-- the index of the write whose family the call at that index is of, if it is of one
abbrev pub family_of : ℕ → Source → Option ℕ
family_of i source.Write = Some i
family_of i (source.Only k) = Some k
family_of i (source.Doubt k m) = None
family_of i (source.Early k) = None
family_of i source.Unwritten = None
family_of i source.Nothing = None
family_of i source.Pending = None

-- whether a call of that source writes or answers a value that is written
abbrev pub shows_value : Source → Bool
shows_value source.Write = true
shows_value (source.Only k) = true
shows_value (source.Doubt k m) = true
shows_value (source.Early k) = true
shows_value source.Unwritten = false
shows_value source.Nothing = false
shows_value source.Pending = false
