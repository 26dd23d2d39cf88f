-- What a diagram says of the replies that clients hear: the votes that are counted so far, of those
-- that end the phase; that these are enough; or that the reply counts nothing.
use Rattle.markup.specs.Markup.{Markup, nothing}
use Rattle.client_phases.specs.declared.outcomes.Taken.{Taken}
use Rattle.client_phases.specs.declared.outcomes.Taken.TheVariants as outcome
use Rattle.message_scenes.specs.declared.hearings.Hearing.{Hearing}
use Rattle.message_scenes.specs.declared.scene.MessageScene.{MessageScene}
use Rattle.diagrams.specs.declared.style.TheConstants.{COUNTED, COUNTS_NOTHING, ENOUGH, IGNORED}
use Rattle.diagrams.specs.Calls.{text_at}
use Rattle.diagram_words.specs.Words.{votes_words}

module _ (scene : MessageScene) where
  -- what is said of a reply in its row, of which that came
  abbrev pub heard_text : Taken → Hearing → Markup
  heard_text outcome.Stale hearing =
      text_at scene IGNORED.now hearing.client hearing.row COUNTS_NOTHING.now
  heard_text outcome.Counted hearing = text_at scene COUNTED.now hearing.client hearing.row
      (votes_words hearing.votes hearing.needed)
  heard_text outcome.Ready hearing =
      text_at scene COUNTED.now hearing.client hearing.row ENOUGH.now
  heard_text (outcome.Noted tag) hearing = nothing
  heard_text (outcome.Agreed tag) hearing = nothing

  -- what is said of a reply; of one that ends the asking, the note says it
  abbrev pub hearing_text : Hearing → Markup
  hearing_text hearing = heard_text hearing.taken hearing
