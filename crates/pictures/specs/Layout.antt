-- Where a picture shows what, in pixels. Time goes down: each tick, each dot and each gap of the
-- scene has a row of its own. Columns stand side by side.
use Rattle.std.specs.Prelude.{ℕ, ◌≡◌, ◌+◌, ◌-◌, ◌/◌, ◌<◌, ◌≤◌, nat_le, nat_lt, min, max}
use Rattle.std.specs.Prelude.{Bool, false, List, Option, Some, None, length, map, count_by}
use Rattle.std.specs.Prelude.{slice_get}
use Rattle.std.specs.List.Sorted.{IsNonDecreasing, IsStrictlyIncreasing}
use Rattle.scenes.specs.declared.columns.Column.{Column}
use Rattle.scenes.specs.declared.gaps.Gap.{Gap}
use Rattle.scenes.specs.declared.scene.Dot.{Dot}
use Rattle.scenes.specs.declared.scene.Scene.{Scene}
use Rattle.labels.specs.Places.{pixels}
use Rattle.pictures.specs.declared.sizes.TheConstants.{COLUMNS, LETTER, MARGINS, NARROWEST, ROW}
use Rattle.pictures.specs.declared.sizes.TheConstants.{WIDEST}

-- so far down in that row: the start is that of the first row
abbrev pub down : ℕ → ℕ → ℕ
down start row = pixels start row ROW

-- how many of the ticks stand before the place
abbrev pub ticks_before : List ℕ → ℕ → ℕ
ticks_before ticks place = count_by (λ tick. nat_lt tick place) ticks

-- how many of the ticks don't stand after the place
abbrev pub ticks_up_to : List ℕ → ℕ → ℕ
ticks_up_to ticks place = count_by (λ tick. nat_le tick place) ticks

-- how many of the dots stand before the place
abbrev pub dots_before : List Dot → ℕ → ℕ
dots_before dots place = count_by (λ dot. nat_lt dot.place place) dots

-- how many of the dots don't stand after the place
abbrev pub dots_up_to : List Dot → ℕ → ℕ
dots_up_to dots place = count_by (λ dot. nat_le dot.place place) dots

-- how many of the gaps don't begin after the place
abbrev pub gaps_up_to : List Gap → ℕ → ℕ
gaps_up_to gaps place = count_by (λ gap. nat_le gap.place place) gaps

-- the column of a lane, the first if there is none
abbrev pub or_first : Option ℕ → ℕ
or_first None = 0
or_first (Some column) = column

-- the column has several clients
abbrev pub has_several : Option Column → Bool
has_several None = false
has_several (Some column) = nat_lt 1 (length column.clients.items)

-- the ticks and the places of the gaps rise, and the places of the dots don't fall
pub record IsInOrder (scene : Scene) : Type 0 where
  pub ticks : IsStrictlyIncreasing scene.ticks.items
  pub dots : IsNonDecreasing (map (λ dot. dot.place) scene.dots.items)
  pub gaps : IsStrictlyIncreasing (map (λ gap. gap.place) scene.gaps.items)

module _ (scene : Scene) where
  -- the row of a place: below the ticks and the dots of earlier places, and below the gaps up to
  -- there
  abbrev pub row_of_place : ℕ → ℕ
  row_of_place place = ticks_before scene.ticks.items place + dots_before scene.dots.items place
      + gaps_up_to scene.gaps.items place

  -- how many rows there are up to a place
  abbrev pub rows_up_to : ℕ → ℕ
  rows_up_to place = ticks_up_to scene.ticks.items place + dots_up_to scene.dots.items place
      + gaps_up_to scene.gaps.items place

  -- the row of the dot of that index, at its place: below the ticks and the gaps up to there, and
  -- earlier dots
  abbrev pub row_of_dot : ℕ → ℕ → ℕ
  row_of_dot index place =
      ticks_up_to scene.ticks.items place + index + gaps_up_to scene.gaps.items place

  -- the row of the gap of that index, at its place: below the ticks and the dots of earlier places,
  -- and earlier gaps
  abbrev pub row_of_gap : ℕ → ℕ → ℕ
  row_of_gap index place =
      ticks_before scene.ticks.items place + dots_before scene.dots.items place + index

  -- how many rows there are
  abbrev pub rows_of : ℕ
  rows_of = length scene.ticks.items + length scene.dots.items + length scene.gaps.items

  -- the width of a column: the columns share the width of a page, as far as they stay readable
  abbrev pub column_width : ℕ
  column_width = max (min (COLUMNS / max (length scene.columns.items) 1) WIDEST) NARROWEST

  -- so far right in that column: the start is that of the first one
  abbrev pub across : ℕ → ℕ → ℕ
  across start column = pixels start column column_width

  -- the column in which a lane stands
  abbrev pub column_of : ℕ → ℕ
  column_of lane = or_first (slice_get scene.lane_columns.items lane)

  -- several lanes stand in that column
  abbrev pub is_shared : ℕ → Bool
  is_shared column = has_several (slice_get scene.columns.items column)

  -- how many letters a column holds
  abbrev pub room_of : ℕ
  room_of = (column_width - MARGINS) / LETTER

-- each tick, each dot and each gap has a row of its own, in the order of their places
pub record HasRowsInOrder (scene : Scene) : Type 0 where
  pub ticks : (i j p q : ℕ) → i < j → slice_get scene.ticks.items i ≡ Some p
      → slice_get scene.ticks.items j ≡ Some q → row_of_place scene p < row_of_place scene q
  pub dots : (i j : ℕ) (d e : Dot) → i < j → slice_get scene.dots.items i ≡ Some d
      → slice_get scene.dots.items j ≡ Some e
      → row_of_dot scene i d.place < row_of_dot scene j e.place
  pub tick_above_dot : (i j p : ℕ) (d : Dot) → slice_get scene.ticks.items i ≡ Some p
      → slice_get scene.dots.items j ≡ Some d → p ≤ d.place
      → row_of_place scene p < row_of_dot scene j d.place
  pub dot_above_tick : (i j p : ℕ) (d : Dot) → slice_get scene.ticks.items i ≡ Some p
      → slice_get scene.dots.items j ≡ Some d → d.place < p
      → row_of_dot scene j d.place < row_of_place scene p
  pub gaps : (i j : ℕ) (g h : Gap) → i < j → slice_get scene.gaps.items i ≡ Some g
      → slice_get scene.gaps.items j ≡ Some h
      → row_of_gap scene i g.place < row_of_gap scene j h.place
  pub gap_above_tick : (i p : ℕ) (g : Gap) → slice_get scene.gaps.items i ≡ Some g → g.place ≤ p
      → row_of_gap scene i g.place < row_of_place scene p
  pub tick_above_gap : (i j p : ℕ) (g : Gap) → slice_get scene.gaps.items i ≡ Some g
      → slice_get scene.ticks.items j ≡ Some p → p < g.place
      → row_of_place scene p < row_of_gap scene i g.place
  pub gap_above_dot : (i j : ℕ) (g : Gap) (d : Dot) → slice_get scene.gaps.items i ≡ Some g
      → slice_get scene.dots.items j ≡ Some d → g.place ≤ d.place
      → row_of_gap scene i g.place < row_of_dot scene j d.place
  pub dot_above_gap : (i j : ℕ) (g : Gap) (d : Dot) → slice_get scene.gaps.items i ≡ Some g
      → slice_get scene.dots.items j ≡ Some d → d.place < g.place
      → row_of_dot scene j d.place < row_of_gap scene i g.place
