-- The calls of a diagram: each is a bar on its client's lifeline, from the row of its invocation to
-- the row of its response, or to the row where its client stopped. It asks until its tag is fixed,
-- and then it puts.
use Rattle.std.specs.Prelude.{ℕ, ◌*◌, List, [], ◌∷◌, Option, Some, None, map}
use Rattle.markup.specs.Markup.{Markup, nothing, empty, element, both, attribute_of}
use Rattle.markup.specs.declared.names.AttributeName.TheVariants as name
use Rattle.markup.specs.declared.names.Element.TheVariants as tag
use Rattle.markup.specs.Texts.{of_class}
use Rattle.labels.specs.declared.places.Frame.{Frame}
use Rattle.labels.specs.Labels.{label_markup, line_markup, polyline, words_of}
use Rattle.labels.specs.Places.{place_and_size}
use Rattle.tag.specs.declared.actions.Action.{Action}
use Rattle.tag.specs.declared.actions.Action.TheVariants.{Read, Write}
use Rattle.tag.specs.declared.actions.Returned.{Returned}
use Rattle.message_scenes.specs.declared.calls.CallBar.{CallBar}
use Rattle.message_scenes.specs.declared.calls.CallEnd.{CallEnd}
use Rattle.message_scenes.specs.declared.calls.CallEnd.TheVariants as ending
use Rattle.message_scenes.specs.declared.calls.PlacedNote.{PlacedNote}
use Rattle.message_scenes.specs.declared.scene.MessageScene.{MessageScene}
use Rattle.diagram_places.specs.declared.sizes.TheConstants.{LETTERS, MOMENT, STOP_LEFT, STOP_RIGHT}
use Rattle.diagram_places.specs.declared.sizes.TheConstants.{TEXT_BASE, TEXT_RIGHT}
use Rattle.diagram_places.specs.Frames.{bottom_of, piece}
use Rattle.diagram_places.specs.Layout.{client_x, down}
use Rattle.diagrams.specs.declared.style.TheConstants.{ASKING, BEGIN, NOTE, OUTCOME, PUTTING}
use Rattle.diagrams.specs.declared.style.TheConstants.{READING, STOP, STOPPED, WRITING}
use Rattle.diagram_words.specs.Words.{begin_words, note_words, returned_words}

-- the class of a bar by what its call does
abbrev pub action_class : Action → List ℕ
action_class Read = READING.now
action_class (Write value) = WRITING.now

-- a part of a bar that has an end: with four sides
abbrev pub shut_part : List ℕ → Frame → Markup
shut_part class frame =
    empty tag.Rect (words_of name.Class class ∷ map attribute_of (place_and_size frame))

-- the corners of a part that has none, in tenths of a pixel: up the left side, over, and down
abbrev pub open_corners : Frame → List ℕ
open_corners frame = frame.left * 10 ∷ frame.bottom * 10 ∷ frame.left * 10 ∷ frame.top * 10
    ∷ frame.right * 10 ∷ frame.top * 10 ∷ frame.right * 10 ∷ frame.bottom * 10 ∷ []

-- a part that has none: without a side below
abbrev pub open_part : List ℕ → Frame → Markup
open_part class frame = polyline class (open_corners frame)

-- the last part of a bar
abbrev pub last_part : CallEnd → List ℕ → Frame → Markup
last_part ending.Open class frame = open_part class frame
last_part other class frame = shut_part class frame

module _ (scene : MessageScene) where
  -- the parts of a bar: where the call asks, and, from the row of its note on, where it puts
  abbrev pub parts : Option PlacedNote → CallBar → Markup
  parts None bar = last_part bar.end ASKING.now
      (piece scene bar.client (down MOMENT bar.begins) (bottom_of scene bar.end))
  parts (Some note) bar = both
      (shut_part ASKING.now
      (piece scene bar.client (down MOMENT bar.begins) (down MOMENT note.row)))
      (last_part bar.end PUTTING.now
      (piece scene bar.client (down MOMENT note.row) (bottom_of scene bar.end)))

  -- a line across the lifeline at that height, where the client stopped
  abbrev pub stop_line : ℕ → ℕ → Markup
  stop_line client y = line_markup STOP.now (record {
    x1 = client_x scene STOP_LEFT client;
    y1 = y;
    x2 = client_x scene STOP_RIGHT client;
    y2 = y;
  })

  -- such a line, if the call ends so
  abbrev pub stop_of : ℕ → CallEnd → Markup
  stop_of client (ending.Stopped row) = stop_line client (down MOMENT row)
  stop_of client other = nothing

  -- what is seen of the bar of a call
  abbrev pub in_bar : CallBar → Markup
  in_bar bar = both (parts bar.note bar) (stop_of bar.client bar.end)

  -- the same, by itself
  abbrev pub bar_shape : CallBar → Markup
  bar_shape bar = element tag.G (of_class (action_class bar.action)) (in_bar bar)

  -- words of that class left of the client's lifeline, in a row
  abbrev pub text_at : List ℕ → ℕ → ℕ → List ℕ → Markup
  text_at class client row words = label_markup class (client_x scene TEXT_RIGHT client)
      (down TEXT_BASE row) LETTERS words

  -- what a call does, in the row where it begins
  abbrev pub begin_text : CallBar → Markup
  begin_text bar = text_at BEGIN.now bar.client bar.begins (begin_words bar)

  -- the tag that a client's call notes, in the row of its note
  abbrev pub note_text : ℕ → Option PlacedNote → Markup
  note_text client None = nothing
  note_text client (Some note) = text_at NOTE.now client note.row (note_words note.tag)

  -- what a client's call answers, in that row
  abbrev pub answer_text : ℕ → ℕ → Returned → Markup
  answer_text client row returned = text_at OUTCOME.now client row (returned_words returned)

  -- that the client stopped, in that row
  abbrev pub stopped_text : ℕ → ℕ → Markup
  stopped_text client row = text_at OUTCOME.now client row STOPPED.now

  -- how a client's call ends, in the row where it does
  abbrev pub outcome_text : ℕ → CallEnd → Markup
  outcome_text client (ending.Answered row returned) = answer_text client row returned
  outcome_text client (ending.Stopped row) = stopped_text client row
  outcome_text client ending.Open = nothing

  -- the texts of a call
  abbrev pub call_texts : CallBar → Markup
  call_texts bar = both (begin_text bar)
      (both (note_text bar.client bar.note) (outcome_text bar.client bar.end))
