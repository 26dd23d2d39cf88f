-- Reads of nothing that are late, and the first call that ended of those that show a value.
use Rattle.std.specs.Prelude.{ℕ, ◌≡◌, ◌<◌, ◌≤◌, List, Option, Some, None, Contains, slice_get}
use Rattle.tag.specs.declared.numbers.OpId.{OpId}
use Rattle.recorder.specs.declared.part.Call.{Call}
use Rattle.recorder.specs.declared.part.Response.{Response}
use Rattle.tag_check.specs.Least.{IsLeastCall, HasPartner}
use Rattle.value_order.specs.Faults.{ShowsValue, IsLateNothing}

module _ (part : List Call) where
  -- the call of index k ended at that place, and shows a value
  pub record ShowsAt (k end : ℕ) : Type 0 where
    pub call : Call
    pub at : slice_get part k ≡ Some call
    pub shows : ShowsValue call
    pub response : Response
    pub responds : call.response ≡ Some response
    pub ends : response.place ≡ end

  -- of the calls below index n that show a value the one that ended first
  abbrev pub IsFirstShown : ℕ → Option (ℕ × ℕ) → Type 0
  IsFirstShown n None = (j end : ℕ) → j < n → ShowsAt j end → ⊥
  IsFirstShown n (Some first) = ShowsAt first.0 first.1
      × ((j end : ℕ) → j < n → ShowsAt j end → first.1 ≤ end)

  -- the least read of nothing that is late, and of the calls that show a value the one that ended
  -- first, which precedes it
  pub record IsLeastLate (read call : OpId) : Type 0 where
    pub least : IsLeastCall part (HasPartner part IsLateNothing) read
    pub later : Call
    pub later_recorded : Contains part later
    pub later_number : later.op ≡ read
    pub earlier : Call
    pub earlier_recorded : Contains part earlier
    pub earlier_number : earlier.op ≡ call
    pub late : IsLateNothing earlier later
    pub first : (other : Call) (response : Response) → Contains part other → ShowsValue other
        → other.response ≡ Some response → late.precedes.0.place ≤ response.place
