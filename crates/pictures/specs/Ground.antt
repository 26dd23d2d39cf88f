-- What bars stand on: columns, and a row for each tick and for each gap.
use Rattle.std.specs.Prelude.{ℕ, ◌+◌, ◌/◌, List, length}
use Rattle.markup.specs.Markup.{Markup}
use Rattle.labels.specs.Labels.{line_markup}
use Rattle.scenes.specs.declared.columns.Column.{Column}
use Rattle.scenes.specs.declared.gaps.Gap.{Gap}
use Rattle.scenes.specs.declared.scene.Scene.{Scene}
use Rattle.pictures.specs.declared.sizes.TheConstants.{COLUMN_LEFT, FLOOR, MIDDLE, ROW_TOP}
use Rattle.pictures.specs.declared.style.TheConstants.{GAP, LANE, TICK}
use Rattle.pictures.specs.Layout.{across, column_width, down, row_of_gap, row_of_place, rows_of}

module _ (scene : Scene) where
  -- the middle of a column
  abbrev pub middle_of : ℕ → ℕ
  middle_of column = across scene (COLUMN_LEFT + column_width scene / 2) column

  -- the line in the middle of a column, from the first row to the floor
  abbrev pub guide : ℕ → Markup
  guide column = line_markup LANE.now (record {
    x1 = middle_of column;
    y1 = ROW_TOP;
    x2 = middle_of column;
    y2 = down FLOOR (rows_of scene);
  })

  -- the same, of the column of that index
  abbrev pub column_markup : ℕ → Column → Markup
  column_markup index column = guide index

  -- a line of that class over all columns, at that height
  abbrev pub level_line : List ℕ → ℕ → Markup
  level_line class y = line_markup class (record {
    x1 = COLUMN_LEFT;
    y1 = y;
    x2 = across scene COLUMN_LEFT (length scene.columns.items);
    y2 = y;
  })

  -- the tick of a place: a line in its row
  abbrev pub tick_markup : ℕ → Markup
  tick_markup place = level_line TICK.now (down MIDDLE (row_of_place scene place))

  -- the gap of that index: a line in its row
  abbrev pub gap_markup : ℕ → Gap → Markup
  gap_markup index gap = level_line GAP.now (down MIDDLE (row_of_gap scene index gap.place))
