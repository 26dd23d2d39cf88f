-- The least row by which two families oppose each other, and what they then have.
use Rattle.std.specs.Prelude.{ℕ, ◌≡◌, ◌<◌, ◌≤◌, List, Some, Contains, slice_get}
use Rattle.tag.specs.declared.numbers.OpId.{OpId}
use Rattle.recorder.specs.declared.part.Call.{Call}
use Rattle.recorder.specs.declared.part.Response.{Response}
use Rattle.value_order.specs.declared.decision.Side.{Side}
use Rattle.value_order.specs.declared.zones.Zone.{Zone}
use Rattle.value_order.specs.Families.{IsOfFamily, IsAnsweredBy, IsMemberBy, AreOpposedBy}
use Rattle.value_order.specs.Writers.{IsOnlyWriter}
use Rattle.value_order.specs.Zones.{IsZone}

-- the call was answered at that place
abbrev pub EndedAt : Call → ℕ → Type 0
EndedAt call place =
    (response : Response) × (call.response ≡ Some response) × (response.place ≡ place)

module _ (part : List Call) where
  abbrev pub IsOpposedBy : ℕ → Call → Call → Type 0
  IsOpposedBy row x y = AreOpposedBy part (IsOnlyWriter part) row x y

  -- two families are opposed by the row; no two are
  abbrev pub HasOpposedBy : ℕ → Type 0
  HasOpposedBy row = (x : Call) × (y : Call) × IsOpposedBy row x y

  abbrev pub NoneOpposedBy : ℕ → Type 0
  NoneOpposedBy row = (x y : Call) → IsOpposedBy row x y → ⊥

  abbrev pub NoneOpposedBefore : ℕ → Type 0
  NoneOpposedBefore row = (earlier : ℕ) → earlier < row → NoneOpposedBy earlier

  -- the least row by which two are
  pub record IsLeastRow (row : ℕ) : Type 0 where
    pub opposed : HasOpposedBy row
    pub least : NoneOpposedBefore row

  -- of the family's calls that were answered by the row, the one that ended first
  pub record IsFirstEnded (row : ℕ) (write call : Call) : Type 0 where
    pub of : IsOfFamily part (IsOnlyWriter part) write call
    pub ended : IsAnsweredBy row call
    pub first : (other : Call) → IsOfFamily part (IsOnlyWriter part) write other
        → (a : IsAnsweredBy row other) → ended.response.place ≤ a.response.place

  -- of these and its write, the one that began last
  pub record IsLastBegun (row : ℕ) (write call : Call) : Type 0 where
    pub member : IsMemberBy part (IsOnlyWriter part) row write call
    pub last : (other : Call) → IsMemberBy part (IsOnlyWriter part) row write other
        → other.invoked ≤ call.invoked

  -- the side is that of the write's family by the row
  pub record IsSideOf (row : ℕ) (write : Call) (side : Side) : Type 0 where
    pub recorded : Contains part write
    pub number : write.op ≡ side.write
    pub first : Call
    pub first_number : first.op ≡ side.first_ended
    pub first_ended : IsFirstEnded row write first
    pub last : Call
    pub last_number : last.op ≡ side.last_begun
    pub last_begun : IsLastBegun row write last

  -- the family has a read that was answered at the row
  pub record HasReadAt (row : ℕ) (write : Call) : Type 0 where
    pub read : Call
    pub recorded : Contains part read
    pub reads : IsOnlyWriter part write read
    pub response : Response
    pub responds : read.response ≡ Some response
    pub at : response.place ≡ row

  -- of the first family a read was answered at the row, and the other is the least that is opposed
  -- to it by then
  pub record IsPairAt (row : ℕ) (x y : Call) : Type 0 where
    pub read : HasReadAt row x
    pub opposed : IsOpposedBy row x y
    pub lowest : (other : Call) → IsOpposedBy row x other → y.op.0 ≤ other.op.0

  -- the same of the families of these indexes
  abbrev pub ArePairAt : ℕ → ℕ → ℕ → Type 0
  ArePairAt row k m = (x : Call) × (y : Call) × (slice_get part k ≡ Some x)
      × (slice_get part m ≡ Some y) × IsPairAt row x y

  -- the call of index i isn't a read, answered at the row, of a family that is opposed to one
  abbrev pub HasNoPairAt : ℕ → ℕ → Type 0
  HasNoPairAt row i = (call x y : Call) → slice_get part i ≡ Some call
      → IsOnlyWriter part x call → EndedAt call row → IsOpposedBy row x y → ⊥

  -- the family of that index has a call with the property; it has that number
  abbrev pub HasMember : ℕ → (Call → Type 0) → Type 0
  HasMember k P = (write : Call) × (call : Call) × (slice_get part k ≡ Some write)
      × IsOfFamily part (IsOnlyWriter part) write call × P call

  abbrev pub IsMember : ℕ → (Call → Type 0) → OpId → Type 0
  IsMember k P op = (write : Call) × (call : Call) × (slice_get part k ≡ Some write)
      × IsOfFamily part (IsOnlyWriter part) write call × P call × (call.op ≡ op)

  -- the zone of index k, which is that of its family by some row, has an end
  abbrev pub HasSide : List Zone → ℕ → Type 0
  HasSide zones k = (row : ℕ) × (write : Call) × (zone : Zone) × (end : ℕ)
      × (slice_get part k ≡ Some write) × (slice_get zones k ≡ Some zone)
      × (zone.first_end ≡ Some end) × IsZone part (IsOnlyWriter part) row write zone

  -- the two families that are opposed first
  pub record IsFirstOpposed (a b : Side) : Type 0 where
    pub row : ℕ
    pub least : NoneOpposedBefore row
    pub x : Call
    pub y : Call
    pub pair : IsPairAt row x y
    pub side_x : IsSideOf row x a
    pub side_y : IsSideOf row y b
