-- The diagram of a scene: a tree of elements with one shape for each row, each lifeline, each
-- arrow, each call, each reply that is heard, each put and each down time of the scene.
use Rattle.std.specs.Prelude.{nat_lt, if◌then◌else◌, List, [], ◌∷◌}
use Rattle.markup.specs.Markup.{Markup, NamedText, nothing, text, empty, element, both, each}
use Rattle.markup.specs.declared.names.AttributeName.TheVariants as name
use Rattle.markup.specs.declared.names.Element.TheVariants as tag
use Rattle.sentences.specs.Words.{numbered}
use Rattle.labels.specs.Each.{each_from}
use Rattle.labels.specs.Labels.{label_markup, number_of, title, words_of}
use Rattle.message_scenes.specs.declared.scene.MessageScene.{MessageScene}
use Rattle.diagram_places.specs.declared.sizes.TheConstants.{BOTTOM, COMMAND_LEFT, HEAD_MIDDLE}
use Rattle.diagram_places.specs.declared.sizes.TheConstants.{HEAD_SIZE, HEAD_TIP, SENTENCE_LETTERS}
use Rattle.diagram_places.specs.declared.sizes.TheConstants.{TEXT_BASE}
use Rattle.diagram_places.specs.Frames.{width_of}
use Rattle.diagram_places.specs.Layout.{down, rows_of}
use Rattle.diagrams.specs.declared.sheet.TheConstants.{LEGEND_WORDS, SHEET}
use Rattle.diagrams.specs.declared.style.TheConstants.{AUTO, HEAD, HEAD_BOX, HEAD_PATH, KEY}
use Rattle.diagrams.specs.declared.style.TheConstants.{LIFELINES, MORE, OMITTED, TEXTS, TITLE}
use Rattle.diagrams.specs.Calls.{call_texts}
use Rattle.diagrams.specs.Curtains.{curtains}
use Rattle.diagrams.specs.Hearings.{hearing_text}
use Rattle.diagrams.specs.Items.{box_attributes, hidden_attributes, list_attributes}
use Rattle.diagrams.specs.Lifelines.{lifelines}
use Rattle.diagrams.specs.Lit.{arrow_markup, bar_markup}
use Rattle.diagrams.specs.Replicas.{down_markup, holding_markup}
use Rattle.diagrams.specs.Rows.{reason_markup, row_markup}
use Rattle.diagrams.specs.Sheets.{arrow_samples, bar_samples}
use Rattle.diagrams.specs.Strips.{strips}

-- the attributes of the head of arrows
abbrev pub head_attributes : List NamedText
head_attributes = words_of name.Id HEAD.now ∷ words_of name.ViewBox HEAD_BOX.now
    ∷ number_of name.RefX HEAD_TIP ∷ number_of name.RefY HEAD_MIDDLE
    ∷ number_of name.MarkerWidth HEAD_SIZE ∷ number_of name.MarkerHeight HEAD_SIZE
    ∷ words_of name.Orient AUTO.now ∷ []

-- the head of arrows, which the style sheet puts at the end of each that arrives
abbrev pub head : Markup
head = element tag.Marker head_attributes
    (empty tag.Path (words_of name.Class HEAD.now ∷ words_of name.D HEAD_PATH.now ∷ []))

-- what stands before the shapes of a diagram: its title, and the head
abbrev pub prologue : Markup
prologue = both (title TITLE.now) (element tag.Defs [] head)

module _ (scene : MessageScene) where
  -- how many further steps there were, below the last row, if there were any
  abbrev pub omitted_text : Markup
  omitted_text = if nat_lt 0 scene.omitted
      then label_markup MORE.now COMMAND_LEFT (down TEXT_BASE (rows_of scene)) SENTENCE_LETTERS
      (numbered OMITTED.now scene.omitted)
      else nothing

  -- what arrows and calls stand on: the rows, the lifelines, and the times replicas are down
  abbrev pub plane : Markup
  plane = both (each_from (row_markup scene) 0 scene.rows.items)
      (element tag.G (hidden_attributes LIFELINES.now)
      (both (lifelines scene) (each (down_markup scene) scene.downs.items)))

  -- the texts at lifelines, and why rows have nothing to show
  abbrev pub texts : Markup
  texts = both (each (call_texts scene) scene.calls.items)
      (both (each (hearing_text scene) scene.hearings.items)
      (both (each (holding_markup scene) scene.holdings.items)
      (each_from reason_markup 0 scene.rows.items)))

  -- the bars of the calls, the arrows above them, and above these the texts
  abbrev pub shapes : Markup
  shapes = both (each (bar_markup scene) scene.calls.items)
      (both (each (arrow_markup scene) scene.arrows.items)
      (element tag.G (hidden_attributes TEXTS.now) texts))

  -- the size of the diagram
  abbrev pub svg_attributes : List NamedText
  svg_attributes =
      list_attributes (width_of scene) (down BOTTOM (rows_of scene))

  -- what stands in the diagram's element: the curtains above all else
  abbrev pub content : Markup
  content = both prologue (both plane (both shapes (both omitted_text (curtains scene))))

  -- the diagram's element
  abbrev pub svg : Markup
  svg = element tag.Svg svg_attributes content

  -- the diagram, which scrolls where the window is too narrow, and its strips on paper
  abbrev pub diagram : Markup
  diagram = element tag.Div box_attributes (both (strips scene) svg)

-- ---- what a page of diagrams has once

-- the style sheet
abbrev pub diagram_style : Markup
diagram_style = element tag.Style [] (text SHEET.now)

-- the legend of diagrams
abbrev pub diagram_legend : Markup
diagram_legend = element tag.P (words_of name.Class KEY.now ∷ [])
    (both arrow_samples (both bar_samples (text LEGEND_WORDS.now)))
