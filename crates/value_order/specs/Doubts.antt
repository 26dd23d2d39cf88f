-- Reads that have two writers.
use Rattle.std.specs.Prelude.{ℕ, ◌≡◌, ◌≢◌, List, Option, Some, None, Contains, slice_get}
use Rattle.recorder.specs.declared.part.Call.{Call}
use Rattle.tag_check.specs.Least.{IsLeastCall, LacksCall}
use Rattle.value_order.specs.declared.decision.Doubt.{Doubt}
use Rattle.value_order.specs.Writers.{IsWriter, IsInDoubt}

module _ (part : List Call) where
  -- the read of the doubt, and its two writers with the least numbers
  pub record IsDoubtOf (doubt : Doubt) (read : Call) : Type 0 where
    pub recorded : Contains part read
    pub number : read.op ≡ doubt.read
    pub first : IsLeastCall part (λ write. IsWriter part write read) doubt.first
    pub second : IsLeastCall part (λ write. IsWriter part write read × (write.op ≢ doubt.first))
        doubt.second

  -- the doubt has the numbers of the calls of these indexes
  abbrev pub AreNamed : ℕ → ℕ → ℕ → Doubt → Type 0
  AreNamed i k m doubt = (read one two : Call) → slice_get part i ≡ Some read
      → slice_get part k ≡ Some one → slice_get part m ≡ Some two
      → (read.op ≡ doubt.read) × (one.op ≡ doubt.first) × (two.op ≡ doubt.second)

  -- the least read with a property has two writers, which are named with it
  pub record IsLeastDoubt (P : Call → Type 0) (doubt : Doubt) : Type 0 where
    pub least : IsLeastCall part P doubt.read
    pub read : Call
    pub is : IsDoubtOf doubt read

  -- the least read that has two writers, if one has
  abbrev pub IsFirstDoubt : Option Doubt → Type 0
  IsFirstDoubt None = LacksCall part (IsInDoubt part)
  IsFirstDoubt (Some doubt) = IsLeastDoubt (IsInDoubt part) doubt
