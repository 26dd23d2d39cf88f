-- On paper a picture that doesn't fit on one sheet is cut into strips of rows.
use Rattle.std.specs.Prelude.{ℕ, ◌≡◌, ◌&&◌, nat_le, nat_lt, Bool, Some, length, slice_get}
use Rattle.labels.specs.declared.strips.CutRows.{CutRows}
use Rattle.labels.specs.declared.strips.TheConstants.{STRIP_ROWS}
use Rattle.labels.specs.Strips.{StandsOnce}
use Rattle.scenes.specs.declared.gaps.Gap.{Gap}
use Rattle.scenes.specs.declared.scene.Dot.{Dot}
use Rattle.scenes.specs.declared.scene.Scene.{Scene}
use Rattle.pictures.specs.declared.sizes.TheConstants.{MOST_COLUMNS, MOST_ROWS, ROW, ROW_TOP}
use Rattle.pictures.specs.Layout.{row_of_dot, row_of_gap, row_of_place, rows_of}

module _ (scene : Scene) where
  -- the rows of a picture
  abbrev pub cut_rows : CutRows
  cut_rows = record { start = ROW_TOP; height = ROW; count = rows_of scene }

  -- a picture is cut: it is longer than a strip, but not too long, and not too wide for letters that
  -- can be read
  abbrev pub is_cut : Bool
  is_cut = nat_lt STRIP_ROWS (rows_of scene) && nat_le (rows_of scene) MOST_ROWS
      && nat_le (length scene.columns.items) MOST_COLUMNS

-- each tick, each dot and each gap of a picture stands in one strip, and is seen whole there
pub record HasStrips (scene : Scene) : Type 0 where
  pub ticks : (i place : ℕ) → slice_get scene.ticks.items i ≡ Some place
      → StandsOnce (cut_rows scene) (row_of_place scene place)
  pub dots : (i : ℕ) (dot : Dot) → slice_get scene.dots.items i ≡ Some dot
      → StandsOnce (cut_rows scene) (row_of_dot scene i dot.place)
  pub gaps : (i : ℕ) (gap : Gap) → slice_get scene.gaps.items i ≡ Some gap
      → StandsOnce (cut_rows scene) (row_of_gap scene i gap.place)
