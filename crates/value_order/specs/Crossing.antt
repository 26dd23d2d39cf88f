-- Zones that cross.
use Rattle.std.specs.Prelude.{ℕ, ◌≡◌, ◌<◌, ◌≤◌, List, Option, Some, None}
use Rattle.value_order.specs.declared.zones.Zone.{Zone}
use Rattle.value_order.specs.Zones.{CrossAt}

-- the place is within the zone: after its first end, and not after its last begin
abbrev pub IsWithin : Zone → ℕ → Type 0
IsWithin zone place =
    (end : ℕ) × (zone.first_end ≡ Some end) × (end < place) × (place ≤ zone.last_begin)

module _ (zones : List Zone) where
  abbrev pub HasCrossing : Type 0
  HasCrossing = (k : ℕ) × (m : ℕ) × CrossAt zones k m

  -- the first zone that crosses zone k, if one does
  abbrev pub IsFirstCrossing : ℕ → Option ℕ → Type 0
  IsFirstCrossing k None = (m : ℕ) → CrossAt zones k m → ⊥
  IsFirstCrossing k (Some m) = CrossAt zones k m × ((j : ℕ) → CrossAt zones k j → m ≤ j)
