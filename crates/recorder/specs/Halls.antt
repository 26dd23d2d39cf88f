-- A row of halls: histories side by side, each of the keys that fall to it.
use Rattle.std.specs.Prelude.{ℕ, ◌≡◌, ◌≤◌, ◌%◌, List, length, sum, sum_by, All, slice_get, Option}
use Rattle.std.specs.Prelude.{Some, None}
use Rattle.tag.specs.Limits.{call_limit}
use Rattle.quorum.specs.Quorums.{Quorums}
use Rattle.recorder.specs.declared.row.Row.{Row}
use Rattle.recorder.specs.declared.row.Row.TheVariants.{Invoke, Note, Respond}
use Rattle.recorder.specs.Histories.{Recorded, call_count}

-- how many halls there may be at most
abbrev pub hall_limit : ℕ
hall_limit = 64

-- how many halls there may be
pub record IsHallCount (halls : ℕ) : Type 0 where
  pub least : 1 ≤ halls
  pub most : halls ≤ hall_limit

-- the hall of a key: what the sum of its bytes leaves, divided by the number of halls
abbrev pub hall_of : ℕ → List ℕ → ℕ
hall_of halls key = sum key % halls

-- the row, where it begins a call, is on a key of that hall
abbrev pub FallsTo : ℕ → ℕ → Row → Type 0
FallsTo halls hall (Invoke op client key action) = hall_of halls key ≡ hall
FallsTo halls hall (Note op tag) = Unit {0}
FallsTo halls hall (Respond op returned) = Unit {0}

-- every call that the rows begin is on a key of that hall
abbrev pub IsHallOf : ℕ → ℕ → List Row → Type 0
IsHallOf halls hall rows = All (FallsTo halls hall) rows

-- every history's calls are on keys of its hall
abbrev pub AreOfTheirHalls : ℕ → List Recorded → Type 0
AreOfTheirHalls halls histories = (k : ℕ) (history : Recorded) → slice_get histories k
    ≡ Some history → IsHallOf halls k history.rows

-- how many calls the histories have together
abbrev pub hall_calls : List Recorded → ℕ
hall_calls histories = sum_by (λ history. call_count history.rows) histories

-- what contracts see of histories by hall: hall 0 first; and the quorums of the store that they are
-- of, if they are known
pub record RecordedHalls : Type 0 where
  pub halls : List Recorded
  pub quorums : Option Quorums

-- 1 to 64 halls of at most 1,000,000 calls together, each key in its hall; without quorums there is
-- one hall
pub record AreHalls (histories : RecordedHalls) : Type 0 where
  pub count : IsHallCount (length histories.halls)
  pub calls : hall_calls histories.halls ≤ call_limit
  pub keys : AreOfTheirHalls (length histories.halls) histories.halls
  pub one : histories.quorums ≡ None → length histories.halls ≡ 1
