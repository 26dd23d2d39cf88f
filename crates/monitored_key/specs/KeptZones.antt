-- The zones of kept families, for those who tell of them.
use Rattle.std.specs.Prelude.{ℕ, ◌≡◌, List, Option, Some, None, Contains}
use Rattle.kept_zones.specs.Overwriting.{last_of}
use Rattle.key_monitor.specs.KeptWrites.{KeptWrite}
use Rattle.monitored_key.specs.declared.kept_zone.KeptZone.{KeptZone}
use Rattle.monitored_key.specs.Held.{Held, write_at}

module _ (held : Held) where
  -- the zone is that of the family of the kept write of that number, which began where it says
  pub record IsZoneOf (number : ℕ) (zone : KeptZone) : Type 0 where
    pub kept : KeptWrite
    pub is : write_at held number ≡ Some kept
    pub begin : kept.begin ≡ zone.begin
    pub ended : kept.end ≡ Some zone.end
    pub last : last_of held.known.zones zone.end ≡ Some zone.last

  -- the write isn't kept, or no call of its family has ended
  abbrev pub HasNoZone : ℕ → Type 0
  HasNoZone number = (kept : KeptWrite) → write_at held number ≡ Some kept → kept.end ≡ None

  -- each kept family with an end has its zone in the list
  abbrev pub HasAllZones : List KeptZone → Type 0
  HasAllZones zones =
      (number : ℕ) (zone : KeptZone) → IsZoneOf number zone → Contains zones zone

  -- the kept write of that number writes the text
  abbrev pub IsTextOf : ℕ → List ℕ → Type 0
  IsTextOf number text =
      (kept : KeptWrite) × (write_at held number ≡ Some kept) × (kept.value ≡ text)

  -- the new list has what the old one has, and the zone of that write
  pub record Lists (number : ℕ) (old new : List KeptZone) : Type 0 where
    pub kept : (zone : KeptZone) → Contains old zone → Contains new zone
    pub zone : (zone : KeptZone) → IsZoneOf number zone → Contains new zone

  -- the same, if there is a number
  abbrev pub ListsSlot : Option ℕ → List KeptZone → List KeptZone → Type 0
  ListsSlot None old new = new ≡ old
  ListsSlot (Some number) old new = Lists number old new
