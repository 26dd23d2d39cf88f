-- Which write a read may have read, of those that are kept when it is answered.
use Rattle.std.specs.Prelude.{ℕ, ◌≡◌, ◌⊎◌, List, Some, None, Contains}
use Rattle.tag.specs.declared.actions.Action.TheVariants.{Write}
use Rattle.recorder.specs.declared.part.Call.{Call}
use Rattle.value_order.specs.Zones.{IsFirstEnd}
use Rattle.kept_families.specs.Forgotten.{IsForgotten}
use Rattle.kept_zones.specs.Overwriting.{Known, IsOverwritten, last_of}
use Rattle.key_monitor.specs.ZonesOf.{HasZoneOf}

module _ (part : List Call) (Reads : Call → Call → Type 0) (row : ℕ) (known : Known) where
  -- the write is forgotten, or a zone overwrites that of its family before the place
  abbrev pub IsPassedBefore : ℕ → Call → Type 0
  IsPassedBefore place write = IsForgotten part Reads row write ⊎ ((end : ℕ) × (last : ℕ)
      × HasZoneOf part Reads row write end last × IsOverwritten known.zones place end)

  -- no call of its family has ended, or its zone is kept and none overwrites it before the place
  abbrev pub IsFreshAt : ℕ → Call → Type 0
  IsFreshAt place write = IsFirstEnd part Reads row write None ⊎ ((end : ℕ) × (last : ℕ)
      × (last_of known.zones end ≡ Some last) × HasZoneOf part Reads row write end last
      × (IsOverwritten known.zones place end → ⊥))

  -- the one write of the value that a read which began at the place may have read
  pub record IsOneCandidate (place : ℕ) (value : List ℕ) (write : Call) : Type 0 where
    pub recorded : Contains part write
    pub writes : write.action ≡ Write value
    pub fresh : IsFreshAt place write
    pub others : (other : Call) → Contains part other → other.action ≡ Write value
        → (other ≡ write) ⊎ IsPassedBefore place other

  -- there is none
  abbrev pub HasNoCandidate : ℕ → List ℕ → Type 0
  HasNoCandidate place value = (other : Call) → Contains part other → other.action ≡ Write value
      → IsPassedBefore place other
