-- How lanes are put into columns, each into the first that is free where its first bar begins.
use Rattle.std.specs.Prelude.{ℕ, ◌≡◌, ◌≢◌, ◌<◌, ◌≤◌, ◌⊎◌, List, Option, Some, None}
use Rattle.std.specs.Prelude.{length, map, slice_get, Contains}
use Rattle.std.specs.List.Sorted.{IsStrictlyIncreasing}
use Rattle.scenes.specs.declared.scene.Bar.{Bar}
use Rattle.scenes.specs.Columns.{LastsTo, AreLaneColumns, IsInLane}

-- the bars are those of so many lanes, each of which has one, in the order of their begins, and
-- none ends before it begins
pub record AreInLanes (lanes : ℕ) (bars : List Bar) : Type 0 where
  pub within : (bar : Bar) → Contains bars bar → bar.lane < lanes
  pub each : (lane : ℕ) → lane < lanes → (bar : Bar) × IsInLane bars lane bar
  pub rising : IsStrictlyIncreasing (map (λ bar. bar.begins) bars)
  pub forward : (bar : Bar) → Contains bars bar → LastsTo bar.ends bar.begins

-- the end doesn't come after the other one; no end comes last
abbrev pub IsUpTo : Option ℕ → Option ℕ → Type 0
IsUpTo end other = (n : ℕ) → other ≡ Some n → (m : ℕ) × (end ≡ Some m) × (m ≤ n)

-- beside each of so many lanes the last end of its bars; of a lane without bars the first place
pub record AreLastEnds (lanes : ℕ) (bars : List Bar) (ends : List (Option ℕ)) : Type 0 where
  pub all : length ends ≡ lanes
  pub last : (bar : Bar) (end : Option ℕ) → Contains bars bar → slice_get ends bar.lane ≡ Some end
      → IsUpTo bar.ends end
  pub reached : (lane : ℕ) (end : Option ℕ) → slice_get ends lane ≡ Some end
      → ((bar : Bar) × IsInLane bars lane bar × (bar.ends ≡ end)) ⊎ (end ≡ Some 0)

-- the first column that is free from the place on, if columns are taken until these ends
pub record IsFirstFree (taken : List (Option ℕ)) (place column : ℕ) : Type 0 where
  pub among : column ≤ length taken
  pub free : (end : Option ℕ) → slice_get taken column ≡ Some end
      → (n : ℕ) × (end ≡ Some n) × (n < place)
  pub first : (before : ℕ) (end : Option ℕ) → before < column
      → slice_get taken before ≡ Some end → LastsTo end place

-- the list has that at the index, and is otherwise the same
pub record HasAt {X : Type 0} (old new : List X) (index : ℕ) (x : X) : Type 0 where
  pub here : slice_get new index ≡ Some x
  pub others : (i : ℕ) → i ≢ index → slice_get new i ≡ slice_get old i

-- a lane that has no column is put into the first that is free from the place on, which is then
-- taken until the end
pub record Takes (lane place : ℕ) (end : Option ℕ) (columns now taken then : List (Option ℕ))
    : Type 0 where
  pub none : slice_get columns lane ≡ Some None
  pub column : ℕ
  pub free : IsFirstFree taken place column
  pub put : HasAt columns now lane (Some column)
  pub took : HasAt taken then column end

-- a lane that has a column stays there
pub record Stays (lane : ℕ) (columns now taken then : List (Option ℕ)) : Type 0 where
  pub column : ℕ
  pub there : slice_get columns lane ≡ Some (Some column)
  pub same : now ≡ columns
  pub free : then ≡ taken

-- the columns of so many lanes, and how many they are: each has a lane
pub record AreCountedColumns (bars : List Bar) (lanes : ℕ) (columns : List ℕ) (count : ℕ)
    : Type 0 where
  pub columns_are : AreLaneColumns bars lanes columns
  pub each : (number : ℕ) → number < count → (lane : ℕ) × (slice_get columns lane ≡ Some number)
  pub within : (lane number : ℕ) → slice_get columns lane ≡ Some number → number < count
