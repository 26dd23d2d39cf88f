-- When a value was first shown: the first end of a write, or of a read that answers a value.
use Rattle.std.specs.Prelude.{ℕ, ◌≡◌, ◌≤◌, List, Option, Some, None, Contains}
use Rattle.recorder.specs.declared.part.Call.{Call}
use Rattle.recorder.specs.declared.part.Response.{Response}
use Rattle.value_order.specs.Faults.{ShowsValue}

-- a call that shows a value was answered at the place
pub record ShowsAt (part : List Call) (place : ℕ) : Type 0 where
  pub call : Call
  pub recorded : Contains part call
  pub shows : ShowsValue call
  pub response : Response
  pub responds : call.response ≡ Some response
  pub at : response.place ≡ place

-- the first such place, if there is one
abbrev pub IsFirstShow : List Call → Option ℕ → Type 0
IsFirstShow part None = (place : ℕ) → ShowsAt part place → ⊥
IsFirstShow part (Some first) =
    ShowsAt part first × ((place : ℕ) → ShowsAt part place → first ≤ place)

-- a read that began at that place and answers nothing isn't late
abbrev pub IsInTime : Option ℕ → ℕ → Type 0
IsInTime None begin = Unit {0}
IsInTime (Some first) begin = begin ≤ first

-- the first place, with a call more that shows a value
abbrev pub first_show : Option ℕ → ℕ → Option ℕ
first_show None place = Some place
first_show (Some first) place = Some first
