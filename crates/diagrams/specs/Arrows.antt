-- The arrows of a diagram, one for each copy of a message: a line, a cross if the copy is lost, and
-- what the message asks or tells.
use Rattle.std.specs.Prelude.{ℕ, ◌+◌, ◌-◌, Bool, if◌then◌else◌, List}
use Rattle.markup.specs.Markup.{Markup, nothing, element, both}
use Rattle.markup.specs.declared.names.Element.TheVariants as tag
use Rattle.markup.specs.Texts.{of_class}
use Rattle.labels.specs.declared.labels.Way.{Way}
use Rattle.labels.specs.Labels.{label_markup, line_markup}
use Rattle.message_scenes.specs.declared.arrows.Arrow.{Arrow}
use Rattle.message_scenes.specs.declared.arrows.ArrowEnd.{ArrowEnd}
use Rattle.message_scenes.specs.declared.arrows.ArrowEnd.TheVariants as ending
use Rattle.message_scenes.specs.declared.scene.MessageScene.{MessageScene}
use Rattle.diagram_places.specs.declared.sizes.TheConstants.{ARM, LABEL_BASE, LABEL_LETTERS}
use Rattle.diagram_places.specs.Layout.{down}
use Rattle.diagram_places.specs.Ways.{is_request, label_x, way_of}
use Rattle.diagrams.specs.declared.style.TheConstants.{ARRIVING, CROSS, LABEL, LOST, REPLY, REQUEST}
use Rattle.diagrams.specs.declared.style.TheConstants.{STALE, UNDER_WAY}
use Rattle.diagram_words.specs.Words.{arrow_words}

-- the class of an arrow by what it is
abbrev pub direction_class : Bool → List ℕ
direction_class request = if request then REQUEST.now else REPLY.now

-- the class of its line by how it ends
abbrev pub end_class : ArrowEnd → List ℕ
end_class (ending.Arrives row) = ARRIVING.now
end_class (ending.Stale row) = STALE.now
end_class (ending.Lost row) = LOST.now
end_class ending.Open = UNDER_WAY.now

-- a cross at that place
abbrev pub cross : ℕ → ℕ → Markup
cross x y = both
    (line_markup CROSS.now
    (record { x1 = x - ARM; y1 = y - ARM; x2 = x + ARM; y2 = y + ARM }))
    (line_markup CROSS.now
    (record { x1 = x - ARM; y1 = y + ARM; x2 = x + ARM; y2 = y - ARM }))

-- a cross at the end of the line of a copy that is lost
abbrev pub cross_of : ArrowEnd → Way → Markup
cross_of (ending.Lost row) way = cross way.x2 way.y2
cross_of other way = nothing

-- the number of an arrow's message and what it asks or tells, below the row where it begins
abbrev pub arrow_label : Way → Arrow → Markup
arrow_label way arrow = label_markup LABEL.now (label_x (is_request arrow.message) way)
    (down LABEL_BASE arrow.begins) LABEL_LETTERS (arrow_words arrow)

-- what is seen of an arrow that goes there
abbrev pub in_arrow : Way → Arrow → Markup
in_arrow way arrow = both (line_markup (end_class arrow.end) way)
    (both (cross_of arrow.end way) (arrow_label way arrow))

-- the class of an arrow
abbrev pub arrow_class : Arrow → List ℕ
arrow_class arrow = direction_class (is_request arrow.message)

module _ (scene : MessageScene) where
  -- what is seen of an arrow, by itself
  abbrev pub arrow_shape : Arrow → Markup
  arrow_shape arrow =
      element tag.G (of_class (arrow_class arrow)) (in_arrow (way_of scene arrow) arrow)
