-- What makes a picture readable: a dot stands on its bar, a bar in its column, a text in its bar.
use Rattle.std.specs.Prelude.{ℕ, ◌≡◌, ◌+◌, ◌*◌, ◌<◌, ◌≤◌, List, [], ◌∷◌, Some, Contains}
use Rattle.labels.specs.declared.places.Frame.{Frame}
use Rattle.labels.specs.Places.{farthest}
use Rattle.scenes.specs.declared.scene.Bar.{Bar}
use Rattle.scenes.specs.declared.scene.Scene.{Scene}
use Rattle.pictures.specs.declared.sizes.TheConstants.{DOT_RADIUS, LETTER, TEXT_LEFT}
use Rattle.pictures.specs.declared.style.TheConstants.{ALL_KEYS, ANSWER, ANSWERS, ARROW}
use Rattle.pictures.specs.declared.style.TheConstants.{BEFORE, BEFORE_WORD}
use Rattle.pictures.specs.declared.style.TheConstants.{BEGINS_HEADING, CALLS}
use Rattle.pictures.specs.declared.style.TheConstants.{ANSWERED_HEADING, ANSWER_HEADING}
use Rattle.pictures.specs.declared.style.TheConstants.{CALL_HEADING, CALL_SIGN, CLIENT}
use Rattle.pictures.specs.declared.style.TheConstants.{CLIENTS_WORD, CLIENT_HEADING, CLIENT_SIGN}
use Rattle.pictures.specs.declared.style.TheConstants.{CLIENT_WORD, COMMA, DOES, OF_CLIENTS}
use Rattle.pictures.specs.declared.style.TheConstants.{FAULT_SIGN, GAP, GAP_CALL, GAP_CALLS}
use Rattle.pictures.specs.declared.style.TheConstants.{GAP_SIGN, LINES, NAMES, OMITTED}
use Rattle.pictures.specs.declared.style.TheConstants.{DOES_HEADING, DONE, DOT, FAULTY_KEY}
use Rattle.pictures.specs.declared.style.TheConstants.{FAULTY_READ, FAULTY_WRITE, LANE, LEGEND}
use Rattle.pictures.specs.declared.style.TheConstants.{LINE, LINE_WORD, NOTED, NOTED_HEADING}
use Rattle.pictures.specs.declared.style.TheConstants.{NOTES, NOTE_HEADING, NOT_ANSWERED, NUMBER}
use Rattle.pictures.specs.declared.style.TheConstants.{OPEN, OPEN_KEY, PAPER, PAPER_STRIP, PATH}
use Rattle.pictures.specs.declared.style.TheConstants.{PICTURE, READ}
use Rattle.pictures.specs.declared.style.TheConstants.{READS, READ_KEY, ROWS, TABLE_OF}
use Rattle.pictures.specs.declared.style.TheConstants.{TABLE_TITLE, TICK, TITLE}
use Rattle.pictures.specs.declared.style.TheConstants.{WRITE, WRITES, WRITE_KEY}
use Rattle.pictures.specs.Frames.{frame_of}
use Rattle.pictures.specs.Layout.{across, column_of, room_of}

-- the frame ends before the farthest place
pub record IsWithinReach (frame : Frame) : Type 0 where
  pub right : frame.right < farthest
  pub bottom : frame.bottom < farthest

-- the response of the bar's call, if it has one, is a tick, and the bar's end
abbrev pub HasTick : Scene → Bar → Type 0
HasTick scene bar = (place : ℕ) → bar.answered ≡ Some place
    → Contains scene.ticks.items place × (bar.ends ≡ Some place)

-- the circle of a dot about that place lies strictly within the frame
pub record HasCircle (frame : Frame) (x y : ℕ) : Type 0 where
  pub left : frame.left + DOT_RADIUS < x
  pub right : x + DOT_RADIUS < frame.right
  pub top : frame.top + DOT_RADIUS < y
  pub bottom : y + DOT_RADIUS < frame.bottom

-- a text of a bar that takes all of its room begins and ends within the bar
pub record HasTexts (scene : Scene) (bar : Bar) : Type 0 where
  pub left : (frame_of scene bar).left < across scene TEXT_LEFT (column_of scene bar.lane)
  pub right : across scene TEXT_LEFT (column_of scene bar.lane) + room_of scene * LETTER
      ≤ (frame_of scene bar).right

-- the names of classes
abbrev pub class_names : List (List ℕ)
class_names = PICTURE.now ∷ LANE.now ∷ CLIENT.now ∷ TICK.now ∷ LINE.now ∷ PATH.now ∷ DOT.now
    ∷ NUMBER.now ∷ READ.now ∷ WRITE.now ∷ FAULTY_READ.now ∷ FAULTY_WRITE.now ∷ OPEN.now
    ∷ DOES.now ∷ NOTED.now ∷ ANSWERS.now ∷ LEGEND.now ∷ CALLS.now ∷ NAMES.now ∷ LINES.now
    ∷ GAP.now ∷ OMITTED.now ∷ ROWS.now ∷ ARROW.now ∷ BEFORE.now ∷ PAPER.now ∷ PAPER_STRIP.now ∷ []

-- what a legend says of the kinds of bars
abbrev pub legend_words : List (List ℕ)
legend_words = WRITE_KEY.now ∷ READ_KEY.now ∷ OPEN_KEY.now ∷ FAULTY_KEY.now ∷ []

-- what a table says at the head of its columns
abbrev pub headings : List (List ℕ)
headings = CALL_HEADING.now ∷ CLIENT_HEADING.now ∷ DOES_HEADING.now ∷ ANSWER_HEADING.now
    ∷ NOTE_HEADING.now ∷ BEGINS_HEADING.now ∷ NOTED_HEADING.now ∷ ANSWERED_HEADING.now ∷ []

-- what is said of calls
abbrev pub call_phrases : List (List ℕ)
call_phrases = READS.now ∷ WRITES.now ∷ NOTES.now ∷ ANSWER.now ∷ DONE.now ∷ NOT_ANSWERED.now ∷ []

-- other words of a picture
abbrev pub other_words : List (List ℕ)
other_words = TITLE.now ∷ ALL_KEYS.now ∷ CLIENT_WORD.now ∷ CLIENTS_WORD.now ∷ CLIENT_SIGN.now
    ∷ OF_CLIENTS.now ∷ COMMA.now ∷ LINE_WORD.now ∷ CALL_SIGN.now ∷ TABLE_TITLE.now ∷ TABLE_OF.now
    ∷ FAULT_SIGN.now ∷ GAP_SIGN.now ∷ GAP_CALL.now ∷ GAP_CALLS.now
    ∷ BEFORE_WORD.now ∷ []
