-- The keys of calls, by their sources and the zones of families.
use Rattle.std.specs.Prelude.{ℕ, ◌≡◌, ◌≢◌, ◌<◌, ◌⊎◌, List, Option, Some, None, true, false}
use Rattle.std.specs.Prelude.{length, slice_get}
use Rattle.std.specs.Prelude.{IsPermutation, IsSorted}
use Rattle.tag.specs.declared.numbers.OpId.{OpId}
use Rattle.recorder.specs.declared.part.Call.{Call}
use Rattle.value_order.specs.declared.keys.SortKey.{SortKey}
use Rattle.value_order.specs.declared.sources.Source.{Source}
use Rattle.value_order.specs.declared.sources.Source.TheVariants as source
use Rattle.value_order.specs.declared.zones.Zone.{Zone}
use Rattle.value_order.specs.Keys.{HasRank, key_cmp}
use Rattle.value_order.specs.Sources.{family_of}

-- each family has a zone
abbrev pub HaveZones : List Source → List Zone → Type 0
HaveZones sources zones = (i k : ℕ) (from : Source) → slice_get sources i ≡ Some from
    → family_of i from ≡ Some k → k < length zones

-- the call at index i is listed: it reads nothing, or its family has an end
abbrev pub IsKept : List Zone → ℕ → Source → Type 0
IsKept zones i from = (from ≡ source.Nothing) ⊎ ((k : ℕ) × (zone : Zone) × (end : ℕ)
    × (family_of i from ≡ Some k) × (slice_get zones k ≡ Some zone) × (zone.first_end ≡ Some end))

-- the key of a read of nothing
pub record IsFirstKey (key : SortKey) : Type 0 where
  pub rank : key.rank ≡ 0
  pub family : key.family ≡ 0
  pub reads : key.is_read ≡ true

-- the key of a call of a family, which is a write if it has the family's index
pub record IsFamilyKey (zones : List Zone) (i : ℕ) (from : Source) (key : SortKey) : Type 0 where
  pub family : family_of i from ≡ Some key.family
  pub ranked : HasRank zones key
  pub reads : key.is_read ≡ true → key.family ≢ i
  pub writes : key.is_read ≡ false → key.family ≡ i

-- the key of the call at index i
abbrev pub IsKeyAt : List Zone → ℕ → Source → SortKey → Type 0
IsKeyAt zones i from key = (key.index ≡ i)
    × (((from ≡ source.Nothing) × IsFirstKey key) ⊎ IsFamilyKey zones i from key)

-- the same, if the call is listed
abbrev pub IsKeyIf : List Zone → ℕ → Source → Option SortKey → Type 0
IsKeyIf zones i from None = IsKept zones i from → ⊥
IsKeyIf zones i from (Some key) = IsKeyAt zones i from key

-- the keys of the listed calls below index n
pub record AreSortKeys (zones : List Zone) (sources : List Source) (n : ℕ) (keys : List SortKey) :
    Type 0 where
  pub each : (p : ℕ) (key : SortKey) → slice_get keys p ≡ Some key → (from : Source)
      × (slice_get sources key.index ≡ Some from) × IsKeyAt zones key.index from key
  pub below : (p : ℕ) (key : SortKey) → slice_get keys p ≡ Some key → key.index < n
  pub all : (i : ℕ) (from : Source) → i < n → slice_get sources i ≡ Some from
      → IsKept zones i from
      → (p : ℕ) × (key : SortKey) × (slice_get keys p ≡ Some key) × (key.index ≡ i)
  pub rise : (p q : ℕ) (a b : SortKey) → p < q → slice_get keys p ≡ Some a
      → slice_get keys q ≡ Some b → a.index < b.index

-- these keys, sorted
pub record AreKeysSorted (zones : List Zone) (sources : List Source) (keys : List SortKey) : Type 0
  where
    pub made : List SortKey
    pub are : AreSortKeys zones sources (length sources) made
    pub moved : IsPermutation made keys
    pub sorted : IsSorted key_cmp keys

-- the numbers of the calls with the first n keys
pub record AreNumbersOf (part : List Call) (keys : List SortKey) (n : ℕ) (ops : List OpId) : Type 0
  where
    pub count : length ops ≡ n
    pub each : (p : ℕ) (key : SortKey) (call : Call) → p < n → slice_get keys p ≡ Some key
        → slice_get part key.index ≡ Some call → slice_get ops p ≡ Some call.op
