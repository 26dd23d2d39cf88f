-- What calls are sorted by: their families by rank, in each the write and then the reads by number.
use Rattle.std.specs.Prelude.{ℕ, ◌≡◌, ◌≢◌, ◌<◌, ◌⊎◌, List, Some, true, false, length, slice_get}
use Rattle.std.specs.Ordering.{nat_cmp, bool_cmp, then_cmp, on}
use Rattle.std.specs.declared.cmp.Ordering.{Ordering}
use Rattle.tag.specs.declared.numbers.OpId.{OpId}
use Rattle.recorder.specs.declared.part.Call.{Call}
use Rattle.recorder.specs.Sound.{IsRead}
use Rattle.value_order.specs.declared.keys.SortKey.{SortKey}
use Rattle.value_order.specs.declared.zones.Zone.{Zone}
use Rattle.value_order.specs.Families.{IsOfFamily}
use Rattle.value_order.specs.Writers.{AnswersNothing}
use Rattle.value_order.specs.Zones.{rank_of}

-- the order of keys
abbrev pub key_cmp : SortKey → SortKey → Ordering
key_cmp = then_cmp (on (λ k. k.rank) nat_cmp) (then_cmp (on (λ k. k.family) nat_cmp)
    (then_cmp (on (λ k. k.is_read) bool_cmp) (on (λ k. k.index) nat_cmp)))

-- in words: by rank, by family, a write before a read, then by number
abbrev pub ComesFirst : SortKey → SortKey → Type 0
ComesFirst a b = (a.rank < b.rank) ⊎ ((a.rank ≡ b.rank) × ((a.family < b.family)
    ⊎ ((a.family ≡ b.family) × (((a.is_read ≡ false) × (b.is_read ≡ true))
    ⊎ ((a.is_read ≡ b.is_read) × (a.index < b.index))))))

-- the family of that index has a zone with an end, and the key has its rank
pub record HasRank (zones : List Zone) (key : SortKey) : Type 0 where
  pub zone : Zone
  pub end : ℕ
  pub at : slice_get zones key.family ≡ Some zone
  pub ends : zone.first_end ≡ Some end
  pub rank : key.rank ≡ rank_of end zone.last_begin

module _ (part : List Call) (Reads : Call → Call → Type 0) (zones : List Zone) where
  -- the key of a read of nothing
  pub record IsNothingKey (call : Call) (key : SortKey) : Type 0 where
    pub nothing : AnswersNothing call
    pub rank : key.rank ≡ 0
    pub family : key.family ≡ 0
    pub reads : key.is_read ≡ true

  -- the key of a call of a family
  pub record IsMemberKey (call : Call) (key : SortKey) : Type 0 where
    pub write : Call
    pub at : slice_get part key.family ≡ Some write
    pub of : IsOfFamily part Reads write call
    pub ranked : HasRank zones key
    pub reads : key.is_read ≡ true → IsRead call
    pub writes : key.is_read ≡ false → call ≡ write

  -- the key of the call at its index
  abbrev pub IsCallKey : SortKey → Type 0
  IsCallKey key = (call : Call) × (slice_get part key.index ≡ Some call)
      × (IsNothingKey call key ⊎ IsMemberKey call key)

  -- a call that is listed: a read of nothing, or a call of a family that has an end
  abbrev pub IsListed : Call → Type 0
  IsListed call = AnswersNothing call ⊎ ((k : ℕ) × (write : Call) × (zone : Zone) × (end : ℕ)
      × (slice_get part k ≡ Some write) × (slice_get zones k ≡ Some zone)
      × (zone.first_end ≡ Some end) × IsOfFamily part Reads write call)

  -- the order has the numbers of the listed calls, sorted by their keys
  pub record IsByFamilies (order : List OpId) : Type 0 where
    pub keys : List SortKey
    pub each : (p : ℕ) (key : SortKey) → slice_get keys p ≡ Some key → IsCallKey key
    pub all : (i : ℕ) (call : Call) → slice_get part i ≡ Some call → IsListed call
        → (p : ℕ) × (key : SortKey) × (slice_get keys p ≡ Some key) × (key.index ≡ i)
    pub rises : (p q : ℕ) (a b : SortKey) → p < q → slice_get keys p ≡ Some a
        → slice_get keys q ≡ Some b → ComesFirst a b
    pub apart : (p q : ℕ) (a b : SortKey) → p < q → slice_get keys p ≡ Some a
        → slice_get keys q ≡ Some b → a.index ≢ b.index
    pub count : length order ≡ length keys
    pub numbers : (p : ℕ) (key : SortKey) (call : Call) → slice_get keys p ≡ Some key
        → slice_get part key.index ≡ Some call → slice_get order p ≡ Some call.op
