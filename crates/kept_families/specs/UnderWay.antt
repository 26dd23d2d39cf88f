-- Calls that were under way at one place: they bound what is kept.
use Rattle.std.specs.Prelude.{ℕ, ◌≡◌, ◌≢◌, ◌<◌, ◌≤◌, ◌&&◌, Bool, false, List, Option, Some, None}
use Rattle.std.specs.Prelude.{count_by, length, nat_le, slice_get, Contains}
use Rattle.recorder.specs.declared.part.Call.{Call}
use Rattle.recorder.specs.declared.part.Response.{Response}
use Rattle.value_order.specs.Families.{IsOfFamily, IsAnsweredBy}
use Rattle.value_order.specs.Zones.{BeginsAt}
use Rattle.kept_families.specs.Forgotten.{IsSettled, IsKept}

-- whether the response comes at the place or after it, and not after the row
abbrev pub ends_from : ℕ → ℕ → Option Response → Bool
ends_from row place None = false
ends_from row place (Some response) = nat_le place response.place && nat_le response.place row

-- whether the call was under way at the place, and is answered by the row
abbrev pub was_under_way : ℕ → ℕ → Call → Bool
was_under_way row place call = nat_le call.invoked place && ends_from row place call.response

-- how many calls of the part were under way at the place, and are answered by the row
abbrev pub under_way_count : List Call → ℕ → ℕ → ℕ
under_way_count part row place = count_by (was_under_way row place) part

module _ (part : List Call) (Reads : Call → Call → Type 0) (row : ℕ) where
  -- kept and settled
  abbrev pub IsKeptSettled : Call → Type 0
  IsKeptSettled write = IsKept part Reads row write × IsSettled part Reads row write

  -- the place at which the last of these families began last
  pub record IsLatest (place : ℕ) : Type 0 where
    pub w : Call
    pub kept : IsKeptSettled w
    pub begins : BeginsAt part Reads row w place
    pub greatest : (other : Call) (begin : ℕ) → IsKeptSettled other
        → BeginsAt part Reads row other begin → begin ≤ place

  -- a call of the family was under way at the place, and is answered by the row
  pub record WasUnderWay (place : ℕ) (write : Call) : Type 0 where
    pub call : Call
    pub of : IsOfFamily part Reads write call
    pub ended : IsAnsweredBy row call
    pub began : call.invoked ≤ place
    pub lasted : place ≤ ended.response.place

  -- each number is that of a kept settled write, and no number stands there twice
  pub record AreKeptSettled (numbers : List ℕ) : Type 0 where
    pub each : (number : ℕ) → Contains numbers number
        → (write : Call) × (write.op.0 ≡ number) × IsKeptSettled write
    pub once : (i j : ℕ) → i < j → j < length numbers → slice_get numbers i ≢ slice_get numbers j
