-- The rows of a diagram: each has its line of the script at the left, and a line over all columns.
-- Where nothing was done, a band stands over all columns, and in it why.
use Rattle.std.specs.Prelude.{ℕ, ◌≡◌, List, [], ◌∷◌, ◌++◌, codes}
use Rattle.markup.specs.Markup.{Markup, nothing, element, both}
use Rattle.markup.specs.declared.names.AttributeName.TheVariants as name
use Rattle.markup.specs.declared.names.Element.TheVariants as tag
use Rattle.sentences.specs.Words.{numbered}
use Rattle.labels.specs.Labels.{label_markup, line_markup, words_of}
use Rattle.traces.specs.Words.{refusal_text, unsettled_text}
use Rattle.message_scenes.specs.declared.scene.Attempt.{Attempt}
use Rattle.message_scenes.specs.declared.scene.Attempt.TheVariants as attempt
use Rattle.message_scenes.specs.declared.scene.MessageScene.{MessageScene}
use Rattle.message_scenes.specs.declared.scene.StepRow.{StepRow}
use Rattle.diagram_places.specs.declared.sizes.TheConstants.{COMMAND_LEFT, COMMAND_LETTERS}
use Rattle.diagram_places.specs.declared.sizes.TheConstants.{LINE_LETTERS, LINE_RIGHT, MOMENT}
use Rattle.diagram_places.specs.declared.sizes.TheConstants.{REASON_LEFT, SENTENCE_LETTERS}
use Rattle.diagram_places.specs.declared.sizes.TheConstants.{STEP_LEFT, TEXT_BASE}
use Rattle.diagram_places.specs.Frames.{band, width_of}
use Rattle.diagram_places.specs.Layout.{down}
use Rattle.diagrams.specs.declared.style.TheConstants.{BAND, COMMAND, LINE_WORD, REASON, REFUSED}
use Rattle.diagrams.specs.declared.style.TheConstants.{SCRIPT_ID, SCRIPT_LINK, SOURCE, STEP}
use Rattle.diagrams.specs.Calls.{shut_part}
use Rattle.diagram_words.specs.Words.{attempt_words}

-- the id of a line of the script
abbrev pub script_id : ℕ → List ℕ
script_id line = numbered SCRIPT_ID.now line

-- a link to that line
abbrev pub line_link : ℕ → List ℕ
line_link line = numbered SCRIPT_LINK.now line

-- the number of the line of the script that a row's step belongs to, at that height: a link to it
abbrev pub source_at : ℕ → ℕ → Markup
source_at y line = element tag.A (words_of name.Href (line_link line) ∷ [])
    (label_markup SOURCE.now LINE_RIGHT y LINE_LETTERS (numbered LINE_WORD.now line))

-- the class of these words by what came of it
abbrev pub attempt_class : Attempt → List ℕ
attempt_class (attempt.Taken step) = COMMAND.now
attempt_class other = REFUSED.now

-- the words of what was tried
abbrev pub command_at : ℕ → Attempt → Markup
command_at y tried =
    label_markup (attempt_class tried) COMMAND_LEFT y COMMAND_LETTERS (attempt_words tried)

-- the line of the script that the row of that index belongs to
abbrev pub row_words : ℕ → StepRow → Markup
row_words index row = both (source_at (down TEXT_BASE index) row.origin.line)
    (command_at (down TEXT_BASE index) row.attempt)

-- a reason in the row of that index
abbrev pub reason_at : ℕ → List ℕ → Markup
reason_at index words =
    label_markup REASON.now REASON_LEFT (down TEXT_BASE index) SENTENCE_LETTERS words

-- why nothing was done, if nothing was
abbrev pub reason_of : ℕ → Attempt → Markup
reason_of index (attempt.Taken step) = nothing
reason_of index (attempt.Refused step why) = reason_at index (refusal_text why)
reason_of index (attempt.Unfinished name why) = reason_at index (unsettled_text why)

-- the reason of the row of that index
abbrev pub reason_markup : ℕ → StepRow → Markup
reason_markup index row = reason_of index row.attempt

module _ (scene : MessageScene) where
  -- a line over all columns, in the row of that index
  abbrev pub row_line : ℕ → Markup
  row_line index = line_markup STEP.now (record {
    x1 = STEP_LEFT;
    y1 = down MOMENT index;
    x2 = width_of scene;
    y2 = down MOMENT index;
  })

  -- such a band, if nothing was done
  abbrev pub band_of : ℕ → Attempt → Markup
  band_of index (attempt.Taken step) = nothing
  band_of index other = shut_part BAND.now (band scene index)

  -- the row of that index
  abbrev pub row_markup : ℕ → StepRow → Markup
  row_markup index row =
      both (row_line index) (both (band_of index row.attempt) (row_words index row))

-- the link of a line leads to the place of the line of that number
abbrev pub LeadsToItsLine : ℕ → Type 0
LeadsToItsLine line = line_link line ≡ codes "#" ++ script_id line
