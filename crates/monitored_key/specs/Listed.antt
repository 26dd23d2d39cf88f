-- The zones of the kept writes that have slots.
use Rattle.std.specs.Prelude.{ℕ, ◌≡◌, ◌⊎◌, List, Some, Contains}
use Rattle.monitored_key.specs.declared.kept.Kept.{Kept}
use Rattle.monitored_key.specs.declared.kept_zone.KeptZone.{KeptZone}
use Rattle.monitored_key.specs.Indexed.{owner_in}
use Rattle.monitored_key.specs.Kept.{seen}
use Rattle.monitored_key.specs.KeptZones.{IsZoneOf}

-- the list has them: the maps have the write of each zone that isn't in it
abbrev pub ListsFew : Kept → List KeptZone → Type 0
ListsFew kept list = (number : ℕ) (zone : KeptZone) → IsZoneOf (seen kept) number zone
    → Contains list zone ⊎ (owner_in kept.writes.more zone.end ≡ Some number)
