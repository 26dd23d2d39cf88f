-- The strips of a diagram on paper: each has the names above its lifelines, and what is seen in its
-- rows.
use Rattle.std.specs.Prelude.{ℕ, ◌+◌, ◌-◌, ◌*◌, Some, nat_le, if◌then◌else◌, List, [], ◌∷◌, length}
use Rattle.markup.specs.Markup.{Markup, NamedText, nothing, element, both, each}
use Rattle.markup.specs.Texts.{of_class}
use Rattle.markup.specs.declared.names.AttributeName.TheVariants as name
use Rattle.markup.specs.declared.names.Element.TheVariants as tag
use Rattle.sentences.specs.Words.{numbered}
use Rattle.labels.specs.Each.{each_below, each_from}
use Rattle.labels.specs.Images.{view_attributes}
use Rattle.labels.specs.Labels.{words_of}
use Rattle.labels.specs.Strips.{shows_row, shows_some, strip_bottom, strip_top, strips_of}
use Rattle.message_scenes.specs.declared.arrows.Arrow.{Arrow}
use Rattle.message_scenes.specs.declared.calls.CallBar.{CallBar}
use Rattle.message_scenes.specs.declared.hearings.Hearing.{Hearing}
use Rattle.message_scenes.specs.declared.replicas.DownTime.{DownTime}
use Rattle.message_scenes.specs.declared.replicas.Holding.{Holding}
use Rattle.message_scenes.specs.declared.scene.MessageScene.{MessageScene}
use Rattle.message_scenes.specs.declared.scene.StepRow.{StepRow}
use Rattle.diagram_places.specs.declared.sizes.TheConstants.{MOST_COLUMNS, TOP}
use Rattle.diagram_places.specs.Frames.{width_of}
use Rattle.diagram_places.specs.Layout.{replicas_of}
use Rattle.diagram_places.specs.Strips.{cut_rows, last_row_of_arrow, last_row_of_call}
use Rattle.diagrams.specs.declared.style.TheConstants.{STRIPS, STRIP_COLUMNS}
use Rattle.diagrams.specs.Arrows.{arrow_shape}
use Rattle.diagrams.specs.Calls.{bar_shape, call_texts}
use Rattle.diagrams.specs.Hearings.{hearing_text}
use Rattle.diagrams.specs.Lifelines.{lifelines}
use Rattle.diagrams.specs.Replicas.{down_markup, holding_markup}
use Rattle.diagrams.specs.Rows.{reason_markup, row_markup}

module _ (scene : MessageScene) where
  -- how many columns there are
  abbrev pub columns_of : ℕ
  columns_of = length scene.clients.items + replicas_of scene

  -- the attributes of a strip: its class says how many columns it has
  abbrev pub strip_attributes : List NamedText
  strip_attributes = words_of name.Class (numbered STRIP_COLUMNS.now columns_of) ∷ []

  -- the names above the lifelines
  abbrev pub names_view : Markup
  names_view = element tag.Svg (view_attributes (width_of scene) 0 TOP) (lifelines scene)

  module _ (strip : ℕ) where
    -- a row, if the strip shows it
    abbrev pub row_in : ℕ → StepRow → Markup
    row_in index row = if shows_row strip index then row_markup scene index row else nothing

    -- why it has nothing to show
    abbrev pub reason_in : ℕ → StepRow → Markup
    reason_in index row = if shows_row strip index then reason_markup index row else nothing

    -- a down time, if the strip shows some of it
    abbrev pub down_in : DownTime → Markup
    down_in time = if shows_some strip time.stops time.starts then down_markup scene time
        else nothing

    -- a bar, if the strip shows some of it
    abbrev pub bar_in : CallBar → Markup
    bar_in bar = if shows_some strip bar.begins (last_row_of_call bar.end)
        then bar_shape scene bar else nothing

    -- the texts of such a bar
    abbrev pub call_texts_in : CallBar → Markup
    call_texts_in bar = if shows_some strip bar.begins (last_row_of_call bar.end)
        then call_texts scene bar else nothing

    -- an arrow, if the strip shows some of it
    abbrev pub arrow_in : Arrow → Markup
    arrow_in arrow =
        if shows_some strip arrow.begins (Some (last_row_of_arrow arrow.begins arrow.end))
        then arrow_shape scene arrow else nothing

    -- what is said of a reply, if the strip shows its row
    abbrev pub hearing_in : Hearing → Markup
    hearing_in hearing = if shows_row strip hearing.row then hearing_text scene hearing
        else nothing

    -- what a replica holds, if the strip shows the row of the put
    abbrev pub holding_in : Holding → Markup
    holding_in holding = if shows_row strip holding.row then holding_markup scene holding
        else nothing

    -- what is seen below the arrows of a strip, as the diagram has it
    abbrev pub below_in : Markup
    below_in = both (each_from row_in 0 scene.rows.items) (both (lifelines scene)
        (both (each down_in scene.downs.items) (each bar_in scene.calls.items)))

    -- its arrows, and what is seen above them
    abbrev pub above_in : Markup
    above_in = both (each arrow_in scene.arrows.items)
        (both (each call_texts_in scene.calls.items)
        (both (each hearing_in scene.hearings.items)
        (both (each holding_in scene.holdings.items)
        (each_from reason_in 0 scene.rows.items))))

    -- from where to where it goes
    abbrev pub rows_view_attributes : List NamedText
    rows_view_attributes = view_attributes (width_of scene) (strip_top (cut_rows scene) strip)
        (strip_bottom (cut_rows scene) strip - strip_top (cut_rows scene) strip)

    -- the rows of a strip
    abbrev pub rows_view : Markup
    rows_view = element tag.Svg rows_view_attributes (both below_in above_in)

    -- what stands in a strip
    abbrev pub inside_strip : Markup
    inside_strip = both names_view rows_view

    -- a strip
    abbrev pub strip_markup : Markup
    strip_markup = element tag.Div strip_attributes inside_strip

  -- the strips, one after another; none, if there are too many columns
  abbrev pub strips : Markup
  strips = if nat_le columns_of MOST_COLUMNS
      then element tag.Div (of_class STRIPS.now) (each_below strip_markup (strips_of (cut_rows scene)))
      else nothing
