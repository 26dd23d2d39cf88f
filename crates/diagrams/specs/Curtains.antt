-- Step by step: each row has a curtain, which hides the rows after it while its id is the page's
-- target, with links to the curtain before it and to the one after it, and what is told of the row.
use Rattle.std.specs.Prelude.{ℕ, ◌+◌, ◌-◌, ◌==◌, ◌<◌, ◌≤◌, nat_le, nat_lt, List, [], ◌∷◌}
use Rattle.std.specs.Prelude.{if◌then◌else◌}
use Rattle.markup.specs.Markup.{Markup, nothing, element, both}
use Rattle.markup.specs.declared.names.AttributeName.TheVariants as name
use Rattle.markup.specs.declared.names.Element.TheVariants as tag
use Rattle.sentences.specs.Words.{numbered}
use Rattle.labels.specs.Each.{each_from}
use Rattle.labels.specs.Labels.{label_markup, words_of}
use Rattle.message_scenes.specs.declared.scene.MessageScene.{MessageScene}
use Rattle.message_scenes.specs.declared.scene.StepRow.{StepRow}
use Rattle.diagram_places.specs.declared.sizes.TheConstants.{ALL_LEFT, BACK_LEFT, COMMAND_LEFT}
use Rattle.diagram_places.specs.declared.sizes.TheConstants.{LETTERS, LINK_BASE, MOST_CURTAINS}
use Rattle.diagram_places.specs.declared.sizes.TheConstants.{NAMES_BASE, NEXT_LEFT}
use Rattle.diagram_places.specs.declared.sizes.TheConstants.{SENTENCE_LETTERS, TOLD_LEFT}
use Rattle.diagram_places.specs.declared.sizes.TheConstants.{TOLD_LETTERS}
use Rattle.diagram_places.specs.Frames.{curtain_frame}
use Rattle.diagram_places.specs.Layout.{down, rows_of}
use Rattle.diagrams.specs.declared.style.TheConstants.{ALL, BACK, CURTAIN, LINK, MESSAGES_LINK}
use Rattle.diagrams.specs.declared.style.TheConstants.{MORE, NEXT, NO_CURTAINS, SENTENCE}
use Rattle.diagrams.specs.declared.style.TheConstants.{STEP_BY_STEP, STEP_ID, STEP_LINK}
use Rattle.diagrams.specs.Calls.{shut_part}

-- the id of the curtain of a row
abbrev pub curtain_id : ℕ → List ℕ
curtain_id row = numbered STEP_ID.now row

-- a link to that place, in these words
abbrev pub link_at : ℕ → ℕ → List ℕ → List ℕ → Markup
link_at x y target words = element tag.A (words_of name.Href target ∷ [])
    (label_markup LINK.now x y LETTERS words)

-- a link to the curtain of a row
abbrev pub link_to : ℕ → ℕ → ℕ → List ℕ → Markup
link_to x y row words = link_at x y (numbered STEP_LINK.now row) words

-- the link back, from the curtain of a row: there is none from the first
abbrev pub link_back : ℕ → ℕ → Markup
link_back y row =
    if row == 0 then nothing else link_to BACK_LEFT y (row - 1) BACK.now

-- what is told of a row, at that height
abbrev pub told_text : ℕ → StepRow → Markup
told_text y row = label_markup SENTENCE.now TOLD_LEFT y TOLD_LETTERS row.told

module _ (scene : MessageScene) where
  -- the link on, from the curtain of a row: there is none from the last
  abbrev pub link_next : ℕ → ℕ → Markup
  link_next y row = if nat_lt row (rows_of scene - 1)
      then link_to NEXT_LEFT y (row + 1) NEXT.now else nothing

  -- the links of the curtain of a row, at that height
  abbrev pub links : ℕ → ℕ → Markup
  links y row = both (link_back y row)
      (both (link_next y row) (link_at ALL_LEFT y MESSAGES_LINK.now ALL.now))

  -- the curtain of a row
  abbrev pub curtain_markup : ℕ → StepRow → Markup
  curtain_markup index row = element tag.G
      (words_of name.Id (curtain_id index) ∷ words_of name.Class CURTAIN.now ∷ [])
      (both (shut_part CURTAIN.now (curtain_frame scene index))
      (both (links (down LINK_BASE index) index) (told_text (down LINK_BASE index) row)))

  -- the link to the first curtain
  abbrev pub start_link : Markup
  start_link = if nat_lt 0 (rows_of scene)
      then link_to COMMAND_LEFT NAMES_BASE 0 STEP_BY_STEP.now else nothing

  -- the curtains of the rows; that there are none, if there are too many rows
  abbrev pub curtains : Markup
  curtains = if nat_le (rows_of scene) MOST_CURTAINS
      then both start_link (each_from curtain_markup 0 scene.rows.items)
      else label_markup MORE.now COMMAND_LEFT NAMES_BASE SENTENCE_LETTERS NO_CURTAINS.now
