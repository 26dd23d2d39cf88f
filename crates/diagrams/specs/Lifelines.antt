-- The lifelines of a diagram: one for each client, and one for each replica.
use Rattle.std.specs.Prelude.{ℕ, nat_lt, if◌then◌else◌, List}
use Rattle.markup.specs.Markup.{Markup, nothing, both, each}
use Rattle.sentences.specs.Words.{numbered}
use Rattle.labels.specs.Each.{each_below}
use Rattle.labels.specs.Labels.{label_markup, line_markup}
use Rattle.message_scenes.specs.declared.scene.MessageScene.{MessageScene}
use Rattle.diagram_places.specs.declared.sizes.TheConstants.{CLIENT, FOOT_BASE, LETTERS, LONG}
use Rattle.diagram_places.specs.declared.sizes.TheConstants.{MOMENT, NAMES_BASE, REPLICA, TOP}
use Rattle.diagram_places.specs.Layout.{client_x, down, replica_x, replicas_of, rows_of}
use Rattle.diagrams.specs.declared.style.TheConstants.{CLIENT_WORD, LIFELINE, WHO}
use Rattle.diagram_words.specs.Words.{replica_words}

-- the name above a lifeline
abbrev pub name_above : ℕ → List ℕ → Markup
name_above x words = label_markup WHO.now x NAMES_BASE LETTERS words

module _ (scene : MessageScene) where
  -- the name below it, in a long diagram
  abbrev pub name_below : ℕ → List ℕ → Markup
  name_below x words = if nat_lt LONG (rows_of scene)
      then label_markup WHO.now x (down FOOT_BASE (rows_of scene)) LETTERS words
      else nothing

  -- a lifeline there, with that name
  abbrev pub lifeline : ℕ → List ℕ → Markup
  lifeline x words = both (line_markup LIFELINE.now
      (record { x1 = x; y1 = TOP; x2 = x; y2 = down MOMENT (rows_of scene) }))
      (both (name_above x words) (name_below x words))

  -- the lifeline of a client
  abbrev pub client_lifeline : ℕ → Markup
  client_lifeline name = lifeline (client_x scene CLIENT name) (numbered CLIENT_WORD.now name)

  -- the lifeline of the replica of that number
  abbrev pub replica_lifeline : ℕ → Markup
  replica_lifeline number =
      lifeline (replica_x scene REPLICA number) (replica_words scene.quorums number)

  -- the lifelines of the clients, and then those of the replicas
  abbrev pub lifelines : Markup
  lifelines = both (each client_lifeline scene.clients.items)
      (each_below replica_lifeline (replicas_of scene))
