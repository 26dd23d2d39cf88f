-- The columns of a scene: each lane has its own, or, if there are more than 16, lanes whose calls
-- don't overlap share some.
use Rattle.std.specs.Prelude.{ℕ, ◌≡◌, ◌<◌, ◌≤◌, ◌⊎◌, ◌↔◌, List, Option, Some}
use Rattle.std.specs.Prelude.{length, slice_get, Contains}
use Rattle.std.specs.List.Sorted.{IsStrictlyIncreasing}
use Rattle.scenes.specs.declared.columns.Column.{Column}
use Rattle.scenes.specs.declared.columns.TheConstants.{OWN_COLUMNS}
use Rattle.scenes.specs.declared.scene.Bar.{Bar}

-- a bar with that end isn't over before the place
abbrev pub LastsTo : Option ℕ → ℕ → Type 0
LastsTo ends place = (end : ℕ) → ends ≡ Some end → place ≤ end

-- the bar ends before the other one begins
abbrev pub EndsBefore : Bar → Bar → Type 0
EndsBefore bar other = (end : ℕ) × (bar.ends ≡ Some end) × (end < other.begins)

-- no place lies within both bars
abbrev pub StandApart : Bar → Bar → Type 0
StandApart bar other = EndsBefore bar other ⊎ EndsBefore other bar

-- the lanes of the two bars stand in one column
abbrev pub ShareColumn : List ℕ → Bar → Bar → Type 0
ShareColumn columns bar other = slice_get columns bar.lane ≡ slice_get columns other.lane

module _ (bars : List Bar) where
  -- the bar is one of the lane's
  abbrev pub IsInLane : ℕ → Bar → Type 0
  IsInLane lane bar = Contains bars bar × (bar.lane ≡ lane)

  -- the lane's first bar begins at the place
  pub record BeginsAt (lane place : ℕ) : Type 0 where
    pub bar : Bar
    pub own : IsInLane lane bar
    pub here : bar.begins ≡ place
    pub first : (other : Bar) → IsInLane lane other → place ≤ other.begins

  -- the place lies within the lane's bars: one has begun by then, and one lasts to there
  pub record IsWithin (lane place : ℕ) : Type 0 where
    pub begun : Bar
    pub own : IsInLane lane begun
    pub by_then : begun.begins ≤ place
    pub lasting : Bar
    pub own_too : IsInLane lane lasting
    pub to_there : LastsTo lasting.ends place

  -- first fit: no place lies within two lanes of one column, and where a lane's first bar begins,
  -- there is a lane in each column before its own
  pub record IsFirstFit (columns : List ℕ) : Type 0 where
    pub apart : (one other column place : ℕ) → slice_get columns one ≡ Some column
        → slice_get columns other ≡ Some column → IsWithin one place → IsWithin other place
        → one ≡ other
    pub full : (lane column place before : ℕ) → slice_get columns lane ≡ Some column
        → BeginsAt lane place → before < column
        → (other : ℕ) × (slice_get columns other ≡ Some before) × IsWithin other place

  -- the column of each of so many lanes: its own, if they are few, else by first fit
  pub record AreLaneColumns (lanes : ℕ) (columns : List ℕ) : Type 0 where
    pub each : length columns ≡ lanes
    pub few : lanes ≤ OWN_COLUMNS → (lane : ℕ) → lane < lanes → slice_get columns lane ≡ Some lane
    pub many : OWN_COLUMNS < lanes → IsFirstFit columns

module _ (lanes columns : List ℕ) where
  -- the client's lane stands in the column of that number
  abbrev pub StandsIn : ℕ → ℕ → Type 0
  StandsIn number client = (lane : ℕ) × (slice_get lanes lane ≡ Some client)
      × (slice_get columns lane ≡ Some number)

  -- the column of that number has the clients of the lanes that stand there, each once, in rising
  -- order
  pub record IsColumnOf (number : ℕ) (column : Column) : Type 0 where
    pub rising : IsStrictlyIncreasing column.clients.items
    pub exactly : (client : ℕ) → Contains column.clients.items client ↔ StandsIn number client

  -- the columns of all lanes: each has a client
  pub record AreColumnsOf (all : List Column) : Type 0 where
    pub each : (number : ℕ) (column : Column) → slice_get all number ≡ Some column
        → IsColumnOf number column
    pub none_empty : (number : ℕ) → number < length all → (client : ℕ) × StandsIn number client
    pub all_there : (lane number : ℕ) → slice_get columns lane ≡ Some number
        → number < length all
