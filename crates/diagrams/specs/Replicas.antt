-- What a diagram shows of replicas: when they are down, and what they hold after each put.
use Rattle.std.specs.Prelude.{ℕ, Bool, List, Option, Some, None, if◌then◌else◌}
use Rattle.markup.specs.Markup.{Markup, both}
use Rattle.labels.specs.Labels.{label_markup}
use Rattle.message_scenes.specs.declared.replicas.Holding.{Holding}
use Rattle.message_scenes.specs.declared.replicas.DownTime.{DownTime}
use Rattle.message_scenes.specs.declared.scene.MessageScene.{MessageScene}
use Rattle.diagram_places.specs.declared.sizes.TheConstants.{HOLDING_LEFT, LETTERS, TEXT_BASE}
use Rattle.diagram_places.specs.Frames.{frame_of}
use Rattle.diagram_places.specs.Layout.{down, replica_x}
use Rattle.diagrams.specs.declared.style.TheConstants.{DOWN_TIME, DOWN_WORD, HOLDS, HOLDS_OWN}
use Rattle.diagrams.specs.Calls.{shut_part}
use Rattle.diagram_words.specs.Words.{holding_words}

-- the class of what a replica holds: of a pair that it takes, or of its own
abbrev pub holding_class : Bool → List ℕ
holding_class takes = if takes then HOLDS.now else HOLDS_OWN.now

module _ (scene : MessageScene) where
  -- words of that class right of the replica's lifeline, in a row
  abbrev pub words_beside : List ℕ → ℕ → ℕ → List ℕ → Markup
  words_beside class replica row words = label_markup class
      (replica_x scene HOLDING_LEFT replica) (down TEXT_BASE row) LETTERS words

  -- a time for which a replica is down: a rectangle, and a word
  abbrev pub down_markup : DownTime → Markup
  down_markup time = both (shut_part DOWN_TIME.now (frame_of scene time))
      (words_beside DOWN_TIME.now time.replica time.stops DOWN_WORD.now)

  -- what a replica holds after a put, in the row where that comes
  abbrev pub holding_markup : Holding → Markup
  holding_markup holding = words_beside (holding_class holding.takes) holding.replica holding.row
      (holding_words holding)
