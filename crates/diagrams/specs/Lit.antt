-- What is seen alone of a diagram while a call or a message is pointed at, or has the focus: a call
-- with its messages and its texts; a message with its call, and with its answer or what it answers.
use Rattle.std.specs.Prelude.{ℕ, ◌==◌, ◌||◌, Bool, false, nat_le, if◌then◌else◌, List}
use Rattle.tag.specs.declared.numbers.OpId.{OpId}
use Rattle.markup.specs.Markup.{Markup, nothing, element, both, each}
use Rattle.markup.specs.declared.names.Element.TheVariants as tag
use Rattle.labels.specs.Labels.{title}
use Rattle.replica.specs.declared.replies.Reply.{Reply}
use Rattle.replica.specs.declared.replies.Reply.TheVariants.{Held, Kept}
use Rattle.network.specs.declared.messages.Message.{Message}
use Rattle.network.specs.declared.messages.Message.TheVariants.{ToClient, ToReplica}
use Rattle.world_steps.specs.Systems.{op_of}
use Rattle.message_scenes.specs.declared.arrows.Arrow.{Arrow}
use Rattle.message_scenes.specs.declared.arrows.ArrowEnd.{ArrowEnd}
use Rattle.message_scenes.specs.declared.arrows.ArrowEnd.TheVariants as ending
use Rattle.message_scenes.specs.declared.calls.CallBar.{CallBar}
use Rattle.message_scenes.specs.declared.scene.MessageScene.{MessageScene}
use Rattle.diagram_places.specs.declared.sizes.TheConstants.{MOST_CURTAINS}
use Rattle.diagram_places.specs.Layout.{rows_of}
use Rattle.diagram_places.specs.Ways.{way_of}
use Rattle.diagrams.specs.declared.style.TheConstants.{LIT}
use Rattle.diagrams.specs.Arrows.{arrow_class, arrow_shape, in_arrow}
use Rattle.diagrams.specs.Calls.{action_class, bar_shape, call_texts, in_bar}
use Rattle.diagrams.specs.Items.{hidden_attributes, item_attributes}
use Rattle.diagram_words.specs.Words.{arrow_title, begin_words}

-- the call that a reply answers
abbrev pub answered_call : Reply → OpId
answered_call (Held op replica tag value) = op
answered_call (Kept op replica) = op

-- the call that a message belongs to
abbrev pub call_of : Message → OpId
call_of (ToReplica replica request) = op_of request
call_of (ToClient name reply) = answered_call reply

-- whether a message belongs to the call
abbrev pub is_of : OpId → Message → Bool
is_of call message = (call_of message).0 == call.0

-- whether a copy that so ends arrives in that row
abbrev pub arrives_in : ℕ → ArrowEnd → Bool
arrives_in row (ending.Arrives other) = other == row
arrives_in row (ending.Stale other) = other == row
arrives_in row other = false

-- whether one of the two answers the other: it begins in the row in which that one arrives
abbrev pub are_pair : Arrow → Arrow → Bool
are_pair one other = arrives_in other.begins one.end || arrives_in one.begins other.end

module _ (scene : MessageScene) where
  -- what is seen alone; nothing, if there are too many rows
  abbrev pub alone : Markup → Markup
  alone inside = if nat_le (rows_of scene) MOST_CURTAINS
      then element tag.G (hidden_attributes LIT.now) inside else nothing

  -- an arrow, if its message belongs to the call
  abbrev pub arrow_of_call : OpId → Arrow → Markup
  arrow_of_call call arrow = if is_of call arrow.message then arrow_shape scene arrow else nothing

  -- a bar, if the message belongs to its call
  abbrev pub bar_of_message : Message → CallBar → Markup
  bar_of_message message bar = if is_of bar.call message then bar_shape scene bar else nothing

  -- another arrow, if one of the two answers the other
  abbrev pub other_of_pair : Arrow → Arrow → Markup
  other_of_pair arrow other = if are_pair arrow other then arrow_shape scene other else nothing

  -- of a call: its messages and its texts
  abbrev pub lit_call : CallBar → Markup
  lit_call bar =
      both (each (arrow_of_call bar.call) scene.arrows.items) (call_texts scene bar)

  -- of a message: its call, and the message that answers it or that it answers
  abbrev pub lit_message : Arrow → Markup
  lit_message arrow = both (each (bar_of_message arrow.message) scene.calls.items)
      (each (other_of_pair arrow) scene.arrows.items)

  -- the bar of a call, with what is seen alone of it
  abbrev pub bar_markup : CallBar → Markup
  bar_markup bar = element tag.G (item_attributes (action_class bar.action))
      (both (title (begin_words bar)) (both (in_bar scene bar) (alone (lit_call bar))))

  -- an arrow, with what is seen alone of it
  abbrev pub arrow_markup : Arrow → Markup
  arrow_markup arrow = element tag.G (item_attributes (arrow_class arrow))
      (both (title (arrow_title arrow))
      (both (in_arrow (way_of scene arrow) arrow) (alone (lit_message arrow))))
