-- Of the calls of a part with a property, the one with the least number.
use Rattle.std.specs.Prelude.{ℕ, ◌≡◌, ◌<◌, ◌≤◌, Contains, List, Option, Some, None, slice_get}
use Rattle.tag.specs.declared.numbers.OpId.{OpId}
use Rattle.recorder.specs.declared.part.Call.{Call}

-- none of the calls has the property
abbrev pub LacksCall : List Call → (Call → Type 0) → Type 0
LacksCall part P = (call : Call) → Contains part call → P call → ⊥

-- the call of that number has the property, and none of a lower number has it
pub record IsLeastCall (part : List Call) (P : Call → Type 0) (op : OpId) : Type 0 where
  pub call : Call
  pub recorded : Contains part call
  pub number : call.op ≡ op
  pub has : P call
  pub least : (other : Call) → Contains part other → P other → op.0 ≤ other.op.0

-- the least numbered call with the property, or none where no call has it
abbrev pub IsFirstCall : List Call → (Call → Type 0) → Option OpId → Type 0
IsFirstCall part P None = LacksCall part P
IsFirstCall part P (Some op) = IsLeastCall part P op

-- the same of the calls below index i
abbrev pub IsFirstBefore : List Call → (Call → Type 0) → ℕ → Option OpId → Type 0
IsFirstBefore part P i None =
    (m : ℕ) (call : Call) → m < i → slice_get part m ≡ Some call → P call → ⊥
IsFirstBefore part P i (Some op) = IsLeastCall part P op

-- one of the part's calls stands so to the later call
abbrev pub HasPartner : List Call → (Call → Call → Type 0) → Call → Type 0
HasPartner part R later = (earlier : Call) × Contains part earlier × R earlier later

-- none of the calls stands so to another
abbrev pub HasNoPair : List Call → (Call → Call → Type 0) → Type 0
HasNoPair part R = LacksCall part (HasPartner part R)

-- the later call is the least numbered one that has a partner, and the earlier one of its partners
-- the least numbered
pub record IsLeastPair (part : List Call) (R : Call → Call → Type 0) (earlier later : OpId) :
    Type 0 where
  pub call : Call
  pub recorded : Contains part call
  pub number : call.op ≡ later
  pub partnered : IsLeastCall part (HasPartner part R) later
  pub partner : IsLeastCall part (λ other. R other call) earlier
