-- On paper rows are cut into strips, one below the other.
use Rattle.std.specs.Prelude.{ℕ, ◌≡◌, ◌+◌, ◌-◌, ◌*◌, ◌/◌, ◌<◌, ◌≤◌, ◌==◌, ◌&&◌, nat_le, Bool}
use Rattle.std.specs.Prelude.{true, min, Option, Some, None}
use Rattle.labels.specs.declared.strips.CutRows.{CutRows}
use Rattle.labels.specs.declared.strips.TheConstants.{STRIP_ROWS}
use Rattle.labels.specs.Places.{pixels}

-- the strip of a row
abbrev pub strip_of : ℕ → ℕ
strip_of row = row / STRIP_ROWS

-- whether a strip shows a row
abbrev pub shows_row : ℕ → ℕ → Bool
shows_row strip row = strip_of row == strip

-- whether a strip shows some of what stands from one row to another, or to the last one
abbrev pub shows_some : ℕ → ℕ → Option ℕ → Bool
shows_some strip begins None = nat_le (strip_of begins) strip
shows_some strip begins (Some ends) =
    nat_le (strip_of begins) strip && nat_le strip (strip_of ends)

module _ (rows : CutRows) where
  -- how many strips the rows make
  abbrev pub strips_of : ℕ
  strips_of = strip_of (rows.count + (STRIP_ROWS - 1))

  -- where a row begins, down
  abbrev pub row_top : ℕ → ℕ
  row_top row = pixels rows.start row rows.height

  -- where a strip begins: with its first row
  abbrev pub strip_top : ℕ → ℕ
  strip_top strip = row_top (strip * STRIP_ROWS)

  -- where it ends: with its last row
  abbrev pub strip_bottom : ℕ → ℕ
  strip_bottom strip = row_top (min ((strip + 1) * STRIP_ROWS) rows.count)

-- a row stands in one strip, and in no other; in its strip it is seen whole, and in no other strip
-- is there room for it
pub record StandsOnce (rows : CutRows) (row : ℕ) : Type 0 where
  pub there : strip_of row < strips_of rows
  pub shown : shows_row (strip_of row) row ≡ true
  pub only : (strip : ℕ) → shows_row strip row ≡ true → strip ≡ strip_of row
  pub top : strip_top rows (strip_of row) ≤ row_top rows row
  pub bottom : row_top rows (row + 1) ≤ strip_bottom rows (strip_of row)
  pub above : (strip : ℕ) → strip < strip_of row → strip_bottom rows strip ≤ row_top rows row
  pub below : (strip : ℕ) → strip_of row < strip → row_top rows (row + 1) ≤ strip_top rows strip

-- what stands from one row to another is shown by the strip of each row between them
abbrev pub IsShownBetween : ℕ → Option ℕ → Type 0
IsShownBetween begins None = (row : ℕ) → begins ≤ row → shows_some (strip_of row) begins None ≡ true
IsShownBetween begins (Some ends) = (row : ℕ) → begins ≤ row → row ≤ ends
    → shows_some (strip_of row) begins (Some ends) ≡ true
