-- What makes a diagram readable: names and words differ.
use Rattle.std.specs.Prelude.{ℕ, List, [], ◌∷◌, ◌++◌}
use Rattle.diagrams.specs.declared.style.TheConstants.{ALL, ARRIVING, ASKING, ASKING_KEY, BACK}
use Rattle.diagrams.specs.declared.style.TheConstants.{BAND, BEGIN, CLIENT_WORD, COMMAND, COUNTED}
use Rattle.diagrams.specs.declared.style.TheConstants.{COUNTS_NOTHING, CROSS, CURTAIN, DOWN_KEY}
use Rattle.diagrams.specs.declared.style.TheConstants.{DOWN_TIME, DOWN_WORD, ENOUGH, HEAD, HOLDS}
use Rattle.diagrams.specs.declared.style.TheConstants.{HOLDS_OWN, IGNORED, KEY, LABEL, LIFELINE}
use Rattle.diagrams.specs.declared.style.TheConstants.{LIFELINES, LINE_WORD, LINK, LIT, LOST}
use Rattle.diagrams.specs.declared.style.TheConstants.{LOST_KEY, MESSAGES, MORE, NEXT, NOTE}
use Rattle.diagrams.specs.declared.style.TheConstants.{NO_CURTAINS, OMITTED, OUTCOME, PUTTING}
use Rattle.diagrams.specs.declared.style.TheConstants.{PUTTING_KEY, READING, REASON, REFUSED, REPLY}
use Rattle.diagrams.specs.declared.style.TheConstants.{REPLY_KEY, REQUEST, REQUEST_KEY, SENTENCE}
use Rattle.diagrams.specs.declared.style.TheConstants.{SOURCE, STALE, STALE_KEY, STEP, STEP_BY_STEP}
use Rattle.diagrams.specs.declared.style.TheConstants.{STOP, STOPPED, STRIPS, STRIP_COLUMNS, TEXTS}
use Rattle.diagrams.specs.declared.style.TheConstants.{TITLE, UNDER_WAY, UNDER_WAY_KEY, WHO}
use Rattle.diagrams.specs.declared.style.TheConstants.{WRITING}
use Rattle.diagram_words.specs.Readable.{said_phrases}

-- the names of classes
abbrev pub class_names : List (List ℕ)
class_names = MESSAGES.now ∷ LIFELINE.now ∷ WHO.now ∷ STEP.now ∷ SOURCE.now ∷ COMMAND.now
    ∷ REQUEST.now ∷ REPLY.now ∷ ARRIVING.now ∷ LOST.now ∷ UNDER_WAY.now ∷ CROSS.now ∷ LABEL.now
    ∷ READING.now ∷ WRITING.now ∷ ASKING.now ∷ PUTTING.now ∷ STOP.now ∷ BEGIN.now ∷ NOTE.now
    ∷ OUTCOME.now ∷ DOWN_TIME.now ∷ HOLDS.now ∷ KEY.now ∷ MORE.now ∷ HEAD.now ∷ REFUSED.now
    ∷ BAND.now ∷ REASON.now ∷ STALE.now ∷ HOLDS_OWN.now ∷ COUNTED.now ∷ IGNORED.now
    ∷ CURTAIN.now ∷ LINK.now ∷ SENTENCE.now ∷ LIFELINES.now ∷ TEXTS.now ∷ LIT.now
    ∷ STRIPS.now ∷ []

-- what a legend says of arrows, bars and down times
abbrev pub legend_words : List (List ℕ)
legend_words = REQUEST_KEY.now ∷ REPLY_KEY.now ∷ STALE_KEY.now ∷ LOST_KEY.now
    ∷ UNDER_WAY_KEY.now ∷ ASKING_KEY.now ∷ PUTTING_KEY.now ∷ DOWN_KEY.now ∷ []

-- what is said of messages, calls, replicas and rows
abbrev pub phrases : List (List ℕ)
phrases = said_phrases ++ STOPPED.now ∷ DOWN_WORD.now ∷ ENOUGH.now ∷ COUNTS_NOTHING.now
    ∷ STEP_BY_STEP.now ∷ BACK.now ∷ NEXT.now ∷ ALL.now ∷ []

-- other words of a diagram
abbrev pub other_words : List (List ℕ)
other_words = TITLE.now ∷ CLIENT_WORD.now ∷ LINE_WORD.now ∷ OMITTED.now ∷ NO_CURTAINS.now
    ∷ STRIP_COLUMNS.now ∷ []
