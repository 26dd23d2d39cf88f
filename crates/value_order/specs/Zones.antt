-- The zone of a family up to a row: its first end and its last begin (Gibbons and Korach 1997).
use Rattle.std.specs.Prelude.{ℕ, ◌≡◌, ◌≢◌, ◌<◌, ◌≤◌, ◌+◌, ◌*◌, ◌⊎◌, min, max, List, Option}
use Rattle.std.specs.Prelude.{Some, None}
use Rattle.std.specs.Prelude.{length, slice_get, Contains}
use Rattle.recorder.specs.declared.part.Call.{Call}
use Rattle.recorder.specs.declared.part.Response.{Response}
use Rattle.recorder.specs.Sound.{IsRead, IsWrite}
use Rattle.value_order.specs.declared.zones.Zone.{Zone}
use Rattle.value_order.specs.Families.{IsOfFamily, IsMemberBy, IsAnsweredBy}

-- what families are sorted by: of first end and last begin the less; of equal ones the begin first
abbrev pub rank_of : ℕ → ℕ → ℕ
rank_of end begin = min (2 * begin + 1) (2 * end + 2)

module _ (part : List Call) (Reads : Call → Call → Type 0) (row : ℕ) (write : Call) where
  -- a call of the family was answered at that place, not after the row
  pub record EndsAt (place : ℕ) : Type 0 where
    pub call : Call
    pub of : IsOfFamily part Reads write call
    pub ended : IsAnsweredBy row call
    pub at : ended.response.place ≡ place

  -- the write began at that place, or a call of the family that was answered by the row
  pub record BeginsAt (place : ℕ) : Type 0 where
    pub call : Call
    pub member : IsMemberBy part Reads row write call
    pub at : call.invoked ≡ place

  -- the first end, if there is one
  abbrev pub IsFirstEnd : Option ℕ → Type 0
  IsFirstEnd None = (place : ℕ) → EndsAt place → ⊥
  IsFirstEnd (Some first) = EndsAt first × ((place : ℕ) → EndsAt place → first ≤ place)

  -- the last begin
  abbrev pub IsLastBegin : ℕ → Type 0
  IsLastBegin last = BeginsAt last × ((place : ℕ) → BeginsAt place → place ≤ last)

  pub record IsZone (zone : Zone) : Type 0 where
    pub first : IsFirstEnd zone.first_end
    pub last : IsLastBegin zone.last_begin

-- the new zone is the zone with a call more, which ended and began at these places
pub record IsZoneWith (zone : Zone) (end begin : ℕ) (new : Zone) : Type 0 where
  pub e : ℕ
  pub is : new.first_end ≡ Some e
  pub low : e ≤ end
  pub lower : (first : ℕ) → zone.first_end ≡ Some first → e ≤ first
  pub from : (e ≡ end) ⊎ (zone.first_end ≡ Some e)
  pub last : new.last_begin ≡ max zone.last_begin begin

-- beside each call its invocation alone
pub record AreBegins (part : List Call) (n : ℕ) (zones : List Zone) : Type 0 where
  pub count : length zones ≡ n
  pub each : (k : ℕ) (call : Call) (zone : Zone) → slice_get part k ≡ Some call
      → slice_get zones k ≡ Some zone
      → (zone.first_end ≡ None) × (zone.last_begin ≡ call.invoked)

-- no call is answered after the row
abbrev pub IsLastRow : List Call → ℕ → Type 0
IsLastRow part row = (call : Call) (response : Response) → Contains part call
    → call.response ≡ Some response → response.place ≤ row

-- beside each write its family's zone; beside a read, which has no family, one without an end
pub record AreZones (part : List Call) (Reads : Call → Call → Type 0) (row : ℕ)
    (zones : List Zone) : Type 0 where
  pub all : length zones ≡ length part
  pub writes : (k : ℕ) (write : Call) (zone : Zone) → slice_get part k ≡ Some write
      → IsWrite write → slice_get zones k ≡ Some zone → IsZone part Reads row write zone
  pub reads : (k : ℕ) (read : Call) (zone : Zone) → slice_get part k ≡ Some read → IsRead read
      → slice_get zones k ≡ Some zone → zone.first_end ≡ None

-- each zone ends before the other's last begin
abbrev pub Cross : Zone → Zone → Type 0
Cross a b = (end_a : ℕ) × (end_b : ℕ) × (a.first_end ≡ Some end_a) × (b.first_end ≡ Some end_b)
    × (end_a < b.last_begin) × (end_b < a.last_begin)

-- the same of two zones of a list
pub record CrossAt (zones : List Zone) (k m : ℕ) : Type 0 where
  pub a : Zone
  pub b : Zone
  pub end_a : ℕ
  pub end_b : ℕ
  pub apart : k ≢ m
  pub at_a : slice_get zones k ≡ Some a
  pub at_b : slice_get zones m ≡ Some b
  pub ends_a : a.first_end ≡ Some end_a
  pub ends_b : b.first_end ≡ Some end_b
  pub there : end_a < b.last_begin
  pub back : end_b < a.last_begin

-- no two do
abbrev pub NoneCross : List Zone → Type 0
NoneCross zones = (k m : ℕ) → CrossAt zones k m → ⊥
