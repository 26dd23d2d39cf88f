-- Linearization points: a dot for each, in the column of its bar, and a line that joins them.
use Rattle.std.specs.Prelude.{ℕ, ◌+◌, ◌*◌, List, [], ◌∷◌, ◌++◌, decimal, slice_get}
use Rattle.std.specs.Prelude.{Option, Some, None}
use Rattle.markup.specs.Markup.{Markup, empty, both}
use Rattle.markup.specs.declared.names.AttributeName.TheVariants as name
use Rattle.markup.specs.declared.names.Element.TheVariants as tag
use Rattle.labels.specs.Labels.{label_markup, number_of, polyline, words_of}
use Rattle.scenes.specs.declared.scene.Bar.{Bar}
use Rattle.scenes.specs.declared.scene.Dot.{Dot}
use Rattle.scenes.specs.declared.scene.Scene.{Scene}
use Rattle.pictures.specs.declared.sizes.TheConstants.{DOT_LEFT, DOT_RADIUS, LINE_LETTERS, MIDDLE}
use Rattle.pictures.specs.declared.sizes.TheConstants.{NUMBER_LEFT, TEXT_BASE}
use Rattle.pictures.specs.declared.style.TheConstants.{DOT, NUMBER, PATH}
use Rattle.pictures.specs.Layout.{across, column_of, down, row_of_dot}

-- the lane of that bar; the first if there is none
abbrev pub lane_or_first : Option Bar → ℕ
lane_or_first None = 0
lane_or_first (Some bar) = bar.lane

-- a circle at that place
abbrev pub circle : ℕ → ℕ → Markup
circle x y = empty tag.Circle (words_of name.Class DOT.now ∷ number_of name.Cx x
    ∷ number_of name.Cy y ∷ number_of name.R DOT_RADIUS ∷ [])

module _ (scene : Scene) where
  -- the column of a dot: that of its bar's lane
  abbrev pub dot_column : Dot → ℕ
  dot_column dot = column_of scene (lane_or_first (slice_get scene.bars.items dot.bar))

  -- where a dot stands: in its column
  abbrev pub dot_x : Dot → ℕ
  dot_x dot = across scene DOT_LEFT (dot_column dot)

  -- and, of that index, in its row
  abbrev pub dot_y : ℕ → Dot → ℕ
  dot_y index dot = down MIDDLE (row_of_dot scene index dot.place)

  -- the dot of that index, and beside it its place in the order
  abbrev pub dot_markup : ℕ → Dot → Markup
  dot_markup index d = both (circle (dot_x d) (dot_y index d))
      (label_markup NUMBER.now (across scene NUMBER_LEFT (dot_column d))
      (down TEXT_BASE (row_of_dot scene index d.place)) LINE_LETTERS (decimal d.number))

  -- where the dot of that index stands, in tenths of a pixel
  abbrev pub corner : ℕ → Dot → List ℕ
  corner index d = dot_x d * 10 ∷ dot_y index d * 10 ∷ []

  -- where dots stand, the first of that index
  abbrev pub corners : ℕ → List Dot → List ℕ
  corners index [] = []
  corners index (d ∷ ds) = corner index d ++ corners (index + 1) ds

  -- the line that joins the dots along the order
  abbrev pub path_markup : Markup
  path_markup = polyline PATH.now (corners 0 scene.dots.items)
