-- The shapes of bars: four sides, or, of a pending call, three.
use Rattle.std.specs.Prelude.{ℕ, ◌+◌, ◌-◌, ◌*◌, List, [], ◌∷◌, ◌++◌, Option, Some, None, map}
use Rattle.markup.specs.Markup.{Markup, empty, attribute_of}
use Rattle.markup.specs.declared.names.AttributeName.TheVariants as name
use Rattle.markup.specs.declared.names.Element.TheVariants as tag
use Rattle.tag.specs.declared.actions.Action.{Action}
use Rattle.tag.specs.declared.actions.Action.TheVariants.{Read, Write}
use Rattle.scenes.specs.declared.scene.Bar.{Bar}
use Rattle.scenes.specs.declared.scene.Scene.{Scene}
use Rattle.labels.specs.declared.places.Frame.{Frame}
use Rattle.labels.specs.Labels.{number_of, polyline}
use Rattle.labels.specs.Places.{place_and_size}
use Rattle.pictures.specs.declared.sizes.TheConstants.{BAR_FOOT, BAR_LEFT, BAR_MARGINS, BAR_TOP}
use Rattle.pictures.specs.declared.sizes.TheConstants.{FLOOR, OPEN_FOOT, READ_CORNER}
use Rattle.pictures.specs.declared.sizes.TheConstants.{WRITE_CORNER}
use Rattle.pictures.specs.declared.style.TheConstants.{OPEN}
use Rattle.pictures.specs.Layout.{across, column_of, column_width, down, row_of_place, rows_of}
use Rattle.pictures.specs.Layout.{rows_up_to}

-- how round the corners are of a bar of that action
abbrev pub corner_of : Action → ℕ
corner_of Read = READ_CORNER
corner_of (Write value) = WRITE_CORNER

-- the shape of an answered call, with so round corners
abbrev pub shut_shape : Frame → ℕ → Markup
shut_shape frame corner = empty tag.Rect
    (map attribute_of (place_and_size frame) ++ number_of name.Rx corner ∷ [])

-- the corners of an open shape, in tenths of a pixel: up the left side, over the top, and down
abbrev pub open_corners : Frame → ℕ → List ℕ
open_corners frame corner =
    frame.left * 10 ∷ frame.bottom * 10
    ∷ frame.left * 10 ∷ (frame.top + corner) * 10
    ∷ (frame.left + corner) * 10 ∷ frame.top * 10
    ∷ (frame.right - corner) * 10 ∷ frame.top * 10
    ∷ frame.right * 10 ∷ (frame.top + corner) * 10
    ∷ frame.right * 10 ∷ frame.bottom * 10 ∷ []

-- the shape of a pending call: without a side below
abbrev pub open_shape : Frame → ℕ → Markup
open_shape frame corner = polyline OPEN.now (open_corners frame corner)

-- the shape of a bar whose call is answered there or pending
abbrev pub shape_of : Option ℕ → Frame → ℕ → Markup
shape_of None frame corner = open_shape frame corner
shape_of (Some place) frame corner = shut_shape frame corner

module _ (scene : Scene) where
  -- the bottom of the bar of a pending call with that end: below the rows up to the end; without
  -- one at the floor
  abbrev pub open_bottom : Option ℕ → ℕ
  open_bottom None = down FLOOR (rows_of scene)
  open_bottom (Some place) = down OPEN_FOOT (rows_up_to scene place)

  -- the bottom of a bar with that response, in whose row it ends, or else with that end
  abbrev pub bottom_of : Option ℕ → Option ℕ → ℕ
  bottom_of None ends = open_bottom ends
  bottom_of (Some place) ends = down BAR_FOOT (row_of_place scene place)

  -- where a bar stands: in its lane's column, from the row of its begin down
  abbrev pub frame_of : Bar → Frame
  frame_of bar = record {
    left = across scene BAR_LEFT (column_of scene bar.lane);
    right = across scene (BAR_LEFT + (column_width scene - BAR_MARGINS)) (column_of scene bar.lane);
    top = down BAR_TOP (row_of_place scene bar.begins);
    bottom = bottom_of bar.answered bar.ends;
  }

  -- the shape of a bar, with so round corners
  abbrev pub shape : Bar → ℕ → Markup
  shape bar corner = shape_of bar.answered (frame_of bar) corner
