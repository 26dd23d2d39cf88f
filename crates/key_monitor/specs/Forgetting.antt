-- What a pass forgets.
use Rattle.std.specs.Prelude.{ℕ, ◌≡◌, List, Option, Some, None, max}
use Rattle.recorder.specs.declared.part.Call.{Call}
use Rattle.value_order.specs.Tables.{ReadsBy}
use Rattle.kept_families.specs.Forgotten.{IsForgotten}
use Rattle.kept_families.specs.Open.{IsFirstOpen}
use Rattle.kept_zones.specs.Overwriting.{Known, LacksZone, NoneSpent, last_of}
use Rattle.key_monitor.specs.Judged.{AreJudged}
use Rattle.key_monitor.specs.ZonesOf.{AreZonesOf, HasZoneOf, NoneForgotten}

-- the known zones are those of judged calls, of which the place is that of the first open read
pub record AreKnownAt (part : List Call) (source : ℕ → Option ℕ) (row place : ℕ) (known : Known) :
    Type 0 where
  pub judged : AreJudged part source row
  pub opens : IsFirstOpen part row place
  pub zones : AreZonesOf part (ReadsBy part source) row known

-- a forgotten family has the zone with that end
pub record IsGone (part : List Call) (source : ℕ → Option ℕ) (row end : ℕ) : Type 0 where
  pub write : Call
  pub last : ℕ
  pub zone : HasZoneOf part (ReadsBy part source) row write end last
  pub forgotten : IsForgotten part (ReadsBy part source) row write

-- the zone with that end goes, and the floor is no lower than its last begin
pub record ZoneGoes (old : Known) (end : ℕ) (new : Known) : Type 0 where
  pub last : ℕ
  pub is : last_of old.zones end ≡ Some last
  pub lacks : LacksZone old.zones end new.zones
  pub floor : new.floor ≡ max old.floor last

-- one zone goes, that of a forgotten family; or none is spent, and each family is kept
abbrev pub ForgetsOne : Known → ℕ → Option ℕ → Known → Type 0
ForgetsOne old place None new = (new ≡ old) × NoneSpent old place
    × ((part : List Call) (source : ℕ → Option ℕ) (row : ℕ)
    → AreKnownAt part source row place old → NoneForgotten part (ReadsBy part source) row old)
ForgetsOne old place (Some end) new = ZoneGoes old end new
    × ((part : List Call) (source : ℕ → Option ℕ) (row : ℕ)
    → AreKnownAt part source row place old
    → IsGone part source row end × AreZonesOf part (ReadsBy part source) row new)
