-- Stale reads: each of their writers was overwritten before they began.
use Rattle.std.specs.Prelude.{ℕ, ◌≡◌, ◌+◌, ◌⊎◌, List, [], ◌∷◌, Option, Some, None, length}
use Rattle.std.specs.Prelude.{Contains, slice_get}
use Rattle.tag.specs.declared.numbers.OpId.{OpId}
use Rattle.recorder.specs.declared.part.Call.{Call}
use Rattle.recorder.specs.Parts.{IsCompleted}
use Rattle.recorder.specs.Sound.{IsRead}
use Rattle.value_order.specs.declared.decision.Doubt.{Doubt}
use Rattle.value_order.specs.Doubts.{IsDoubtOf, IsLeastDoubt}
use Rattle.value_order.specs.Faults.{IsBetween, IsStaleValue, IsStaleDoubt}
use Rattle.value_order.specs.Writers.{IsWriter}

module _ (part : List Call) where
  -- the write of index k is between the read and each of its writers, of which it has one
  pub record IsOverwrittenBy (read : Call) (k : ℕ) : Type 0 where
    pub writer : Call
    pub has : IsWriter part writer read
    pub between : Call
    pub at : slice_get part k ≡ Some between
    pub each : (write : Call) → IsWriter part write read → IsBetween part write between read

  -- such a write, if the read is stale
  abbrev pub IsOverwriter : Call → Option ℕ → Type 0
  IsOverwriter read None = IsStaleValue part read → ⊥
  IsOverwriter read (Some k) = IsOverwrittenBy read k

  -- beside each call
  pub record AreOverwriters (found : List (Option ℕ)) : Type 0 where
    pub all : length found ≡ length part
    pub each : (i : ℕ) (call : Call) (between : Option ℕ) → slice_get part i ≡ Some call
        → slice_get found i ≡ Some between → IsOverwriter call between

  -- the call of index i isn't a read in doubt that is stale
  abbrev pub NotOverwrittenAt : ℕ → Type 0
  NotOverwrittenAt i =
      (call : Call) → slice_get part i ≡ Some call → IsStaleDoubt part call → ⊥

  -- it is one, with that doubt, and that write is between it and each of its writers
  pub record IsOverwrittenAt (i : ℕ) (doubt : Doubt) (between : OpId) : Type 0 where
    pub read : Call
    pub at : slice_get part i ≡ Some read
    pub stale : IsStaleDoubt part read
    pub is : IsDoubtOf part doubt read
    pub call : Call
    pub recorded : Contains part call
    pub number : call.op ≡ between
    pub each : (write : Call) → IsWriter part write read → IsBetween part write call read

  -- the least read in doubt that is stale, and a write between it and each of its writers
  pub record IsLeastOverwritten (doubt : Doubt) (between : OpId) : Type 0 where
    pub least : IsLeastDoubt part (IsStaleDoubt part) doubt
    pub call : Call
    pub recorded : Contains part call
    pub number : call.op ≡ between
    pub each : (write : Call) → IsWriter part write least.read
        → IsBetween part write call least.read

-- a read that was answered
abbrev pub IsAnsweredRead : Call → Type 0
IsAnsweredRead call = IsRead call × IsCompleted call

-- how many of the calls have the property
abbrev pub IsCount : (Call → Type 0) → List Call → ℕ → Type 0
IsCount P [] count = count ≡ 0
IsCount P (call ∷ calls) count =
    (P call × (rest : ℕ) × (count ≡ rest + 1) × IsCount P calls rest)
    ⊎ ((P call → ⊥) × IsCount P calls count)
