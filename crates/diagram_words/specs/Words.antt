-- What is said in a diagram, in few words. A value stands as a JSON text.
use Rattle.std.specs.Prelude.{ℕ, ◌==◌, List, [], ◌++◌, Option, Some, if◌then◌else◌}
use Rattle.std.specs.FinSet as set
use Rattle.quorum.specs.Quorums.{Quorums, votes_of}
use Rattle.tag.specs.Tags.{Tag}
use Rattle.tag.specs.declared.actions.Action.{Action}
use Rattle.tag.specs.declared.actions.Action.TheVariants.{Read, Write}
use Rattle.tag.specs.declared.actions.Returned.{Returned}
use Rattle.tag.specs.declared.actions.Returned.TheVariants.{Value, Written}
use Rattle.sentences.specs.Words.{numbered, tag_text, value_text}
use Rattle.replica.specs.declared.requests.Request.{Request}
use Rattle.replica.specs.declared.requests.Request.TheVariants.{Query, Put}
use Rattle.replica.specs.declared.replies.Reply.{Reply}
use Rattle.replica.specs.declared.replies.Reply.TheVariants.{Held, Kept}
use Rattle.network.specs.declared.messages.Message.{Message}
use Rattle.network.specs.declared.messages.Message.TheVariants.{ToClient, ToReplica}
use Rattle.world_steps.specs.declared.step.Step.{Step}
use Rattle.world_steps.specs.declared.step.Step.TheVariants as step
use Rattle.message_scenes.specs.declared.arrows.Arrow.{Arrow}
use Rattle.message_scenes.specs.declared.arrows.ArrowEnd.{ArrowEnd}
use Rattle.message_scenes.specs.declared.arrows.ArrowEnd.TheVariants as ending
use Rattle.message_scenes.specs.declared.calls.CallBar.{CallBar}
use Rattle.message_scenes.specs.declared.replicas.Holding.{Holding}
use Rattle.message_scenes.specs.declared.scene.Attempt.{Attempt}
use Rattle.message_scenes.specs.declared.scene.Attempt.TheVariants as attempt
use Rattle.diagram_words.specs.declared.phrases.TheConstants.{ANSWERS, ASKS, BLANK, CALL_SIGN}
use Rattle.diagram_words.specs.declared.phrases.TheConstants.{COMMA, DELIVER, DONE, FINISH}
use Rattle.diagram_words.specs.declared.phrases.TheConstants.{FROM_CLIENT, FROM_REPLICA, HELD}
use Rattle.diagram_words.specs.declared.phrases.TheConstants.{HOLDS_SIGN, INVOKE, JOIN, KEEPS, KEPT}
use Rattle.diagram_words.specs.declared.phrases.TheConstants.{LOSE, MESSAGE_WORD, NOTES, OF, PUTS}
use Rattle.diagram_words.specs.declared.phrases.TheConstants.{READS, REPEAT, REPLICA_WORD, RESPOND}
use Rattle.diagram_words.specs.declared.phrases.TheConstants.{SEND, START_REPLICA, STOP_CLIENT}
use Rattle.diagram_words.specs.declared.phrases.TheConstants.{STOP_REPLICA, TO_CLIENT, TO_REPLICA}
use Rattle.diagram_words.specs.declared.phrases.TheConstants.{VOTES, WRITES}

-- ---- rows

-- the first words of a step, as a script says it
unfoldable pub step_words : Step → List ℕ
step_words (step.Join name) = numbered JOIN.now name
step_words (step.Invoke name key action) = numbered INVOKE.now name
step_words (step.Send name replica) = numbered SEND.now name ++ numbered BLANK.now replica
step_words (step.Deliver flight) = numbered DELIVER.now flight
step_words (step.Lose flight) = numbered LOSE.now flight
step_words (step.Repeat flight) = numbered REPEAT.now flight
step_words (step.Respond name) = numbered RESPOND.now name
step_words (step.StopClient name) = numbered STOP_CLIENT.now name
step_words (step.StopReplica replica) = numbered STOP_REPLICA.now replica
step_words (step.StartReplica replica) = numbered START_REPLICA.now replica

-- the first words of what was tried: a step, or to finish a call
abbrev pub attempt_words : Attempt → List ℕ
attempt_words (attempt.Taken one) = step_words one
attempt_words (attempt.Refused one why) = step_words one
attempt_words (attempt.Unfinished name why) = numbered FINISH.now name

-- ---- messages

-- a pair of a replica
abbrev pub pair_words : Tag → Option (List ℕ) → List ℕ
pair_words tag value = tag_text tag ++ BLANK.now ++ value_text value

-- what a request asks or puts
unfoldable pub request_words : Request → List ℕ
request_words (Query op key) = ASKS.now ++ key
request_words (Put op key tag value) = PUTS.now ++ key ++ BLANK.now ++ pair_words tag value

-- what a reply tells
unfoldable pub reply_words : Reply → List ℕ
reply_words (Held op replica tag value) = HELD.now ++ pair_words tag value
reply_words (Kept op replica) = KEPT.now

-- what a message asks or tells
abbrev pub message_words : Message → List ℕ
message_words (ToReplica replica request) = request_words request
message_words (ToClient name reply) = reply_words reply

-- from whom to whom a message goes
abbrev pub between_words : ℕ → ℕ → Message → List ℕ
between_words client replica (ToReplica number request) =
    numbered FROM_CLIENT.now client ++ numbered TO_REPLICA.now replica
between_words client replica (ToClient name reply) =
    numbered FROM_REPLICA.now replica ++ numbered TO_CLIENT.now client

-- to whom a message goes
abbrev pub receiver_words : ℕ → ℕ → Message → List ℕ
receiver_words client replica (ToReplica number request) = numbered TO_REPLICA.now replica
receiver_words client replica (ToClient name reply) = numbered TO_CLIENT.now client

-- to whom a message would have gone that doesn't arrive
abbrev pub missed_words : ArrowEnd → ℕ → ℕ → Message → List ℕ
missed_words (ending.Arrives row) client replica message = []
missed_words (ending.Stale row) client replica message = []
missed_words (ending.Lost row) client replica message = receiver_words client replica message
missed_words ending.Open client replica message = receiver_words client replica message

-- the number of an arrow's message, and what it asks or tells; if it doesn't arrive, to whom it
-- goes
unfoldable pub arrow_words : Arrow → List ℕ
arrow_words arrow = numbered [] arrow.flight ++ BLANK.now ++ message_words arrow.message
    ++ missed_words arrow.end arrow.client arrow.replica arrow.message

-- the same, with whom it goes from and to
unfoldable pub arrow_title : Arrow → List ℕ
arrow_title arrow = numbered MESSAGE_WORD.now arrow.flight
    ++ between_words arrow.client arrow.replica arrow.message
    ++ COMMA.now ++ message_words arrow.message

-- ---- calls and replicas

-- what a call of that action does to a key
unfoldable pub action_words : List ℕ → Action → List ℕ
action_words key Read = READS.now ++ key
action_words key (Write value) = WRITES.now ++ key ++ BLANK.now ++ value_text (Some value)

-- a call's number, and what it does
abbrev pub begin_words : CallBar → List ℕ
begin_words bar = numbered CALL_SIGN.now bar.call.0 ++ action_words bar.key bar.action

-- the tag that a call notes
abbrev pub note_words : Tag → List ℕ
note_words tag = NOTES.now ++ tag_text tag

-- what a call answers
unfoldable pub returned_words : Returned → List ℕ
returned_words Written = DONE.now
returned_words (Value value) = ANSWERS.now ++ value_text value

-- the votes that a replica has by itself
abbrev pub own_votes : Quorums → ℕ → ℕ
own_votes quorums replica = votes_of quorums.votes (set.insert set.empty replica)

-- so many votes beside a replica's name, unless it has one
abbrev pub own_words : ℕ → List ℕ
own_words votes = if votes == 1 then [] else numbered COMMA.now votes ++ VOTES.now

-- the name of the replica of that number, with its votes
abbrev pub replica_words : Quorums → ℕ → List ℕ
replica_words quorums replica =
    numbered REPLICA_WORD.now replica ++ own_words (own_votes quorums replica)

-- so many votes, of so many that are needed
abbrev pub votes_words : ℕ → ℕ → List ℕ
votes_words votes needed = numbered [] votes ++ numbered OF.now needed ++ VOTES.now

-- what a replica holds after a put: the pair that it takes, or the tag that it keeps
abbrev pub holding_words : Holding → List ℕ
holding_words holding = if holding.takes
    then holding.key ++ HOLDS_SIGN.now ++ pair_words holding.tag holding.value
    else KEEPS.now ++ tag_text holding.tag
