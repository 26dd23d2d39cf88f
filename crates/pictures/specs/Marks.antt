-- What a strip shows on paper of ticks, gaps and dots: what stands in its rows, and the part of the
-- line along the order that crosses them.
use Rattle.std.specs.Prelude.{ℕ, ◌+◌, ◌-◌, min, Bool, List, [], ◌∷◌, ◌++◌, Option, Some, None}
use Rattle.std.specs.Prelude.{decimal, flat_map, if◌then◌else◌, length, slice_get}
use Rattle.markup.specs.Markup.{Markup, nothing, empty, both, each}
use Rattle.markup.specs.declared.names.AttributeName.TheVariants as name
use Rattle.markup.specs.declared.names.Element.TheVariants as tag
use Rattle.labels.specs.Each.{each_from}
use Rattle.labels.specs.Labels.{polyline, words_of}
use Rattle.labels.specs.Strips.{shows_row, shows_some}
use Rattle.labels.specs.Texts.{text_of}
use Rattle.explanations.specs.declared.hall_rows.HallRows.{HallRows}
use Rattle.scenes.specs.declared.gaps.Gap.{Gap}
use Rattle.scenes.specs.declared.scene.Dot.{Dot}
use Rattle.scenes.specs.declared.scene.Scene.{Scene}
use Rattle.pictures.specs.declared.sizes.TheConstants.{COLUMN_LEFT, MIDDLE}
use Rattle.pictures.specs.declared.style.TheConstants.{BLANK, LEVEL, MOVE, PATH, TICK}
use Rattle.pictures.specs.Dots.{corner, dot_markup}
use Rattle.pictures.specs.Ground.{column_markup, gap_markup}
use Rattle.pictures.specs.Layout.{across, down, row_of_dot, row_of_gap, row_of_place}
use Rattle.pictures.specs.Strips.{gap_name, line_name}

module _ (scene : Scene) where
  -- a line over all columns at that height, as a path has it
  abbrev pub level_way : ℕ → List ℕ
  level_way y = MOVE.now ++ decimal COLUMN_LEFT ++ BLANK.now ++ decimal y
      ++ LEVEL.now ++ decimal (across scene COLUMN_LEFT (length scene.columns.items))

  -- the row of that dot, if it is there
  abbrev pub row_of_any : ℕ → Option Dot → ℕ
  row_of_any index None = 0
  row_of_any index (Some dot) = row_of_dot scene index dot.place

  -- the row of the dot of that index
  abbrev pub dot_row : ℕ → ℕ
  dot_row index = row_of_any index (slice_get scene.dots.items index)

  module _ (strip : ℕ) where
    -- the strip shows the row of a place
    abbrev pub shows_place : ℕ → Bool
    shows_place place = shows_row strip (row_of_place scene place)

    -- that place, if there is one and the strip shows its row
    abbrev pub place_in : Option ℕ → Option ℕ
    place_in None = None
    place_in (Some place) = if shows_place place then Some place else None

    -- the line of a tick, if the strip shows its row
    abbrev pub tick_in : ℕ → List ℕ
    tick_in place = if shows_place place then level_way (down MIDDLE (row_of_place scene place))
        else []

    -- the lines of the ticks in its rows, as one path
    abbrev pub ticks_in : Markup
    ticks_in = empty tag.Path (words_of name.Class TICK.now
        ∷ words_of name.D (text_of (flat_map tick_in scene.ticks.items)) ∷ [])

    -- the line of the history file at a place, if it shows its row
    abbrev pub line_in : HallRows → ℕ → Markup
    line_in hall place = if shows_place place then line_name scene hall place else nothing

    -- a gap and how many calls it leaves out, if it shows its row
    abbrev pub gap_in : ℕ → Gap → Markup
    gap_in index gap = if shows_row strip (row_of_gap scene index gap.place)
        then both (gap_markup scene index gap) (gap_name scene index gap) else nothing

    -- a dot, if it shows its row
    abbrev pub dot_in : ℕ → Dot → Markup
    dot_in index dot = if shows_row strip (row_of_dot scene index dot.place)
        then dot_markup scene index dot else nothing

    -- the line from the dot before that of this index to the one after it crosses the strip; before
    -- the first dot and after the last there is none
    abbrev pub joins : ℕ → Bool
    joins index = shows_some strip (dot_row (index - 1))
        (Some (dot_row (min (index + 1) (length scene.dots.items - 1))))

    -- where the dot of that index stands, if that line crosses the strip
    abbrev pub corner_in : ℕ → Dot → List ℕ
    corner_in index d = if joins index then corner scene index d else []

    -- the same of these dots, the first of that index
    abbrev pub corners_in : ℕ → List Dot → List ℕ
    corners_in index [] = []
    corners_in index (d ∷ ds) = corner_in index d ++ corners_in (index + 1) ds

    -- the part of the line along the order that crosses the strip
    abbrev pub path_in : Markup
    path_in = polyline PATH.now (corners_in 0 scene.dots.items)

    -- what bars stand on in the strip: the columns, the ticks, the gaps, and the lines of the file
    abbrev pub ground_in : HallRows → Markup
    ground_in hall = both (each_from (column_markup scene) 0 scene.columns.items)
        (both ticks_in (both (each_from gap_in 0 scene.gaps.items)
        (each (line_in hall) scene.ticks.items)))
