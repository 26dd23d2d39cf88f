-- How many of a part's calls are under way at one place.
use Rattle.std.specs.Prelude.{ℕ, ◌≡◌, ◌+◌, ◌≤◌, ◌&&◌, List, [], ◌∷◌, Option, Some, None}
use Rattle.std.specs.Prelude.{Bool, true, false, cond, count_by, nat_le, nat_lt}
use Rattle.recorder.specs.declared.part.Call.{Call}
use Rattle.recorder.specs.declared.part.Response.{Response}

-- whether the response comes after the place, or not at all
abbrev pub ends_after : Option Response → ℕ → Bool
ends_after None place = true
ends_after (Some response) place = nat_lt place response.place

-- whether the place lies within the call
abbrev pub is_under_way : Call → ℕ → Bool
is_under_way call place = nat_le call.invoked place && ends_after call.response place

-- how many of the calls are under way at the place
abbrev pub under_way : List Call → ℕ → ℕ
under_way [] place = 0
under_way (call ∷ calls) place = cond (is_under_way call place) 1 0 + under_way calls place

-- the greatest number of the calls that are under way at one place
pub record IsMostAtOnce (calls : List Call) (most : ℕ) : Type 0 where
  pub reached : (place : ℕ) × (under_way calls place ≡ most)
  pub greatest : (place : ℕ) → under_way calls place ≤ most

-- whether the response comes at the place or before it
abbrev pub is_answered : Option Response → ℕ → Bool
is_answered None place = false
is_answered (Some response) place = nat_le response.place place

-- how many of the calls are answered at the place or before it
abbrev pub answered : List Call → ℕ → ℕ
answered [] place = 0
answered (call ∷ calls) place = cond (is_answered call.response place) 1 0 + answered calls place

-- how many of the places don't come after that one
abbrev pub up_to : List ℕ → ℕ → ℕ
up_to places place = count_by (λ end. nat_le end place) places

-- the places are those of the calls' responses: up to any place there are as many of them as of
-- calls that are answered
abbrev pub AreEnds : List Call → List ℕ → Type 0
AreEnds calls ends = (place : ℕ) → up_to ends place ≡ answered calls place
