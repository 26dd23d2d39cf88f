-- The picture of calls: the ground, the line along the order, the bars and the dots.
use Rattle.std.specs.Prelude.{ℕ, nat_lt, if◌then◌else◌, List}
use Rattle.std.specs.Prelude.{Option}
use Rattle.markup.specs.Markup.{Markup, NamedText, nothing, element, both, each}
use Rattle.markup.specs.declared.names.Element.TheVariants as tag
use Rattle.labels.specs.Each.{each_from}
use Rattle.labels.specs.Images.{image_attributes}
use Rattle.scenes.specs.declared.arrows.Arrow.{Arrow}
use Rattle.scenes.specs.declared.scene.Scene.{Scene}
use Rattle.pictures.specs.declared.picture.Picture.{Picture}
use Rattle.pictures.specs.declared.sizes.TheConstants.{BOTTOM, FOOT_BASE, LONG}
use Rattle.pictures.specs.declared.style.TheConstants.{PICTURE, TITLE}
use Rattle.pictures.specs.Arrows.{arrow_markup, end_of}
use Rattle.pictures.specs.Bars.{bar_markup}
use Rattle.pictures.specs.Boxes.{box_attributes, named_calls}
use Rattle.pictures.specs.Layout.{down, rows_of}
use Rattle.pictures.specs.Ground.{gap_markup, column_markup, tick_markup}
use Rattle.pictures.specs.Paper.{paper}
use Rattle.pictures.specs.Strips.{client_name, lines_strip, names_strip}
use Rattle.pictures.specs.Dots.{dot_markup, path_markup}

module _ (scene : Scene) where
  -- the names of the clients below the rows, in a long picture
  abbrev pub foot : Markup
  foot = if nat_lt LONG (rows_of scene)
      then each_from (client_name scene (down FOOT_BASE (rows_of scene))) 0 scene.columns.items
      else nothing

  -- what bars stand on: the clients' names below, the columns, the ticks, and the
  -- gaps
  abbrev pub ground : Markup
  ground = both foot (both (each_from (column_markup scene) 0 scene.columns.items)
      (both (each (tick_markup scene) scene.ticks.items)
      (each_from (gap_markup scene) 0 scene.gaps.items)))

  -- the size of the picture, with an arrow or without
  abbrev pub svg_attributes : Option Arrow → List NamedText
  svg_attributes arrow = image_attributes (end_of scene arrow)
      (down BOTTOM (rows_of scene))

module _ (p : Picture) where
  -- the line along the order, the bars above it, and the dots and the arrow above these
  abbrev pub calls_markup : Markup
  calls_markup = both (path_markup p.scene.now)
      (both (each_from (bar_markup p) 0 p.scene.now.bars.items)
      (both (each_from (dot_markup p.scene.now) 0 p.scene.now.dots.items)
      (arrow_markup p.scene.now p.before)))

  -- the picture's element: its title, the ground, and the calls
  abbrev pub svg : Markup
  svg = element tag.Svg (svg_attributes p.scene.now p.before)
      (both (named_calls tag.Title p.keys) (both (ground p.scene.now) calls_markup))

  -- the picture below the strips that stay in sight
  abbrev pub below_strips : Markup
  below_strips = both (names_strip p.scene.now) (both (lines_strip p.scene.now p.hall) svg)

  -- the picture, in a box that has a name, and before it what there is of it on paper alone
  abbrev pub picture_markup : Markup
  picture_markup = element tag.Div (box_attributes PICTURE.now TITLE.now p.keys)
      (both (paper p) below_strips)
