-- Zones of families by first end, of each its last begin, and which are overwritten.
use Rattle.std.specs.Prelude.{ℕ, ◌≡◌, ◌≢◌, ◌<◌, ◌⊎◌, List, Option, Some, None}
use Rattle.std.specs.BTreeMap.{is_at}
use Rattle.std.specs.Map.{lookup}
use Rattle.std.specs.Ordering.{nat_cmp}

-- the last begin of the zone with that first end
abbrev pub last_of : List (ℕ × ℕ) → ℕ → Option ℕ
last_of zones end = lookup (is_at (nat_cmp end)) zones

-- what contracts see of the zones of a key: those that are kept, and the floor, the greatest last
-- begin of those that went
pub record Known : Type 0 where
  pub zones : List (ℕ × ℕ)
  pub floor : ℕ

-- the zone that ended first at w overwrites the one that ended first at u, before the place: that
-- one ended before w began last, and w ended before the place
pub record Overwrites (zones : List (ℕ × ℕ)) (place w u : ℕ) : Type 0 where
  pub last : ℕ
  pub is : last_of zones w ≡ Some last
  pub apart : w ≢ u
  pub early : w < place
  pub later : u < last

abbrev pub IsOverwritten : List (ℕ × ℕ) → ℕ → ℕ → Type 0
IsOverwritten zones place u = (w : ℕ) × Overwrites zones place w u

-- the zone is to be forgotten: one that went overwrote it, or another does before the place
abbrev pub IsSpent : Known → ℕ → ℕ → Type 0
IsSpent known place u = (u < known.floor) ⊎ IsOverwritten known.zones place u

-- none of the zones is
abbrev pub NoneSpent : Known → ℕ → Type 0
NoneSpent known place =
    (u last : ℕ) → last_of known.zones u ≡ Some last → IsSpent known place u → ⊥

-- the zones with that one more, or with that last begin
pub record HasZone (old : List (ℕ × ℕ)) (end last : ℕ) (new : List (ℕ × ℕ)) : Type 0 where
  pub here : last_of new end ≡ Some last
  pub others : (w : ℕ) → w ≢ end → last_of new w ≡ last_of old w

-- the zones without that one
pub record LacksZone (old : List (ℕ × ℕ)) (end : ℕ) (new : List (ℕ × ℕ)) : Type 0 where
  pub here : last_of new end ≡ None
  pub others : (w : ℕ) → w ≢ end → last_of new w ≡ last_of old w

-- each zone ended and began before the place
abbrev pub AreBefore : List (ℕ × ℕ) → ℕ → Type 0
AreBefore zones place =
    (w last : ℕ) → last_of zones w ≡ Some last → (w < place) × (last < place)

-- no other zone crosses the one with that first end, if it begins last at that place
abbrev pub IsFreeTo : List (ℕ × ℕ) → ℕ → ℕ → Type 0
IsFreeTo zones end last =
    (w l : ℕ) → w ≢ end → last_of zones w ≡ Some l → end < l → w < last → ⊥
