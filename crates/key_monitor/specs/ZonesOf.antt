-- The zones of a key as what they mean of its calls.
use Rattle.std.specs.Prelude.{ℕ, ◌≡◌, ◌≤◌, ◌⊎◌, List, Some, Contains}
use Rattle.recorder.specs.declared.part.Call.{Call}
use Rattle.recorder.specs.declared.part.Response.{Response}
use Rattle.recorder.specs.Sound.{IsWrite}
use Rattle.value_order.specs.Zones.{BeginsAt, IsFirstEnd, IsLastBegin}
use Rattle.kept_families.specs.Forgotten.{IsForgotten}
use Rattle.kept_zones.specs.Overwriting.{Known, last_of}

-- no two calls were answered at one place, as rows of a file are
abbrev pub HaveOwnEnds : List Call → Type 0
HaveOwnEnds part = (a b : Call) (r s : Response) → Contains part a → Contains part b
    → a.response ≡ Some r → b.response ≡ Some s → r.place ≡ s.place → a ≡ b

module _ (part : List Call) (Reads : Call → Call → Type 0) (row : ℕ) where
  -- the family of the write has that zone by the row
  pub record HasZoneOf (write : Call) (end last : ℕ) : Type 0 where
    pub recorded : Contains part write
    pub writes : IsWrite write
    pub first : IsFirstEnd part Reads row write (Some end)
    pub begins : IsLastBegin part Reads row write last

  -- the write is forgotten, and no call of its family began after the floor
  pub record WentBelow (floor : ℕ) (write : Call) : Type 0 where
    pub forgotten : IsForgotten part Reads row write
    pub below : (begin : ℕ) → BeginsAt part Reads row write begin → begin ≤ floor

  -- each zone is that of a family by the row, each family with an end has its zone there or is
  -- forgotten, and the floor is where a forgotten one began last
  pub record AreZonesOf (known : Known) : Type 0 where
    pub each : (end last : ℕ) → last_of known.zones end ≡ Some last
        → (write : Call) × HasZoneOf write end last
    pub all : (write : Call) (end : ℕ) → Contains part write → IsWrite write
        → IsFirstEnd part Reads row write (Some end)
        → ((last : ℕ) × (last_of known.zones end ≡ Some last)
        × IsLastBegin part Reads row write last) ⊎ WentBelow known.floor write
    pub floor : (known.floor ≡ 0) ⊎ ((write : Call) × IsForgotten part Reads row write
        × BeginsAt part Reads row write known.floor)

  -- and none of them is forgotten
  abbrev pub NoneForgotten : Known → Type 0
  NoneForgotten known = (write : Call) (end last : ℕ) → last_of known.zones end ≡ Some last
      → HasZoneOf write end last → IsForgotten part Reads row write → ⊥
