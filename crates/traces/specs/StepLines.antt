-- What is told of a step: the step's words and why it is refused, or who takes it and what comes
-- of it.
use Rattle.std.specs.Prelude.{ℕ, zero, suc, List, [], ◌++◌, Option, Some, None, codes, decimal}
use Rattle.std.specs.Prelude.{option_map, option_and_then, slice_get, if◌then◌else◌}
use Rattle.std.specs.FinMap as map
use Rattle.std.specs.FinSet as finite
use Rattle.std.specs.Ordering.{is_lt}
use Rattle.tag.specs.Tags.{Tag, tag_cmp}
use Rattle.sentences.specs.Words.{numbered, tag_text, value_text}
use Rattle.tag.specs.declared.actions.Action.{Action}
use Rattle.tag.specs.declared.actions.Action.TheVariants.{Read, Write}
use Rattle.tag.specs.declared.actions.Returned.{Returned}
use Rattle.tag.specs.declared.actions.Returned.TheVariants.{Value, Written}
use Rattle.quorum.specs.Quorums.{Quorums, votes_of}
use Rattle.quorum.specs.Sets.{Replicas}
use Rattle.replica.specs.Pairs.{no_pair, pair_of}
use Rattle.replica.specs.Replicas.{Replica}
use Rattle.replica.specs.declared.pairs.Pair.{Pair}
use Rattle.replica.specs.declared.requests.Request.{Request}
use Rattle.replica.specs.declared.requests.Request.TheVariants.{Query, Put}
use Rattle.replica.specs.declared.replies.Reply.{Reply}
use Rattle.replica.specs.declared.replies.Reply.TheVariants.{Held, Kept}
use Rattle.client_phases.specs.Clients.{answer_of, counted_by, phase_of, request_of}
use Rattle.client_phases.specs.declared.clients.Client.{Client}
use Rattle.client_phases.specs.declared.outcomes.Phase.{Phase}
use Rattle.client_phases.specs.declared.outcomes.Phase.TheVariants.{Ask}
use Rattle.client_phases.specs.declared.outcomes.Taken.{Taken}
use Rattle.client_phases.specs.declared.outcomes.Taken.TheVariants as taken
use Rattle.network.specs.Flights.{message_of}
use Rattle.network.specs.declared.messages.Message.{Message}
use Rattle.network.specs.declared.messages.Message.TheVariants.{ToReplica, ToClient}
use Rattle.world_steps.specs.Refusals.{refusal_of}
use Rattle.world_steps.specs.Systems.{effect_of}
use Rattle.world_steps.specs.declared.effect.Effect.{Effect}
use Rattle.world_steps.specs.declared.effect.Effect.TheVariants as effect
use Rattle.world_steps.specs.declared.nodes.Node.{Node}
use Rattle.world_steps.specs.declared.refusal.Refusal.{Refusal}
use Rattle.world_steps.specs.declared.step.Step.{Step}
use Rattle.world_steps.specs.declared.step.Step.TheVariants as step
use Rattle.world_steps.specs.declared.system.System.{System}
use Rattle.traces.specs.declared.counts.Count.{Count}
use Rattle.traces.specs.Words.{pair_text, refusal_text}

-- ---- a step's words

-- what is asked of a key, as a script says it, with the value as a JSON text
unfoldable pub asked_words : List ℕ → Action → List ℕ
asked_words key Read = codes " read " ++ key
asked_words key (Write value) = codes " write " ++ key ++ codes " " ++ value_text (Some value)

-- the words of a step in a script
unfoldable pub step_words : Step → List ℕ
step_words (step.Join name) = numbered (codes "join ") name
step_words (step.Invoke name key action) =
    numbered (codes "invoke ") name ++ asked_words key action
step_words (step.Send name replica) =
    numbered (codes "send ") name ++ numbered (codes " ") replica
step_words (step.Deliver flight) = numbered (codes "deliver ") flight
step_words (step.Lose flight) = numbered (codes "lose ") flight
step_words (step.Repeat flight) = numbered (codes "repeat ") flight
step_words (step.Respond name) = numbered (codes "respond ") name
step_words (step.StopClient name) = numbered (codes "stop client ") name
step_words (step.StopReplica replica) = numbered (codes "stop replica ") replica
step_words (step.StartReplica replica) = numbered (codes "start replica ") replica

-- ---- what a client begins, sends and answers

-- a client begins a call
unfoldable pub begun_text : List ℕ → Action → List ℕ
begun_text key Read = codes " begins to read " ++ key
begun_text key (Write value) =
    codes " begins to write " ++ value_text (Some value) ++ codes " to " ++ key

-- a client sends a request to a replica: it asks for the key's pair, or puts a pair
unfoldable pub request_text : ℕ → Request → List ℕ
request_text replica (Query op key) =
    numbered (codes " asks replica ") replica ++ codes " about " ++ key
request_text replica (Put op key tag value) =
    codes " puts " ++ pair_text tag value ++ codes " for " ++ key
    ++ numbered (codes " at replica ") replica

-- a client sends what it has to send
abbrev pub sent_text : ℕ → Option Request → List ℕ
sent_text replica None = []
sent_text replica (Some request) = request_text replica request

-- a client answers its call
unfoldable pub answer_text : Option Returned → List ℕ
answer_text None = []
answer_text (Some Written) = codes " answers that its write is done"
answer_text (Some (Value value)) = codes " answers " ++ value_text value

-- ---- what a message brings

-- a replica's pair of a key; a replica that isn't there has none
abbrev pub pair_in : Option Replica → List ℕ → Pair
pair_in None key = no_pair
pair_in (Some replica) key = pair_of replica.pairs key

-- the pair that the replica of that number has for a key
abbrev pub pair_at : System → ℕ → List ℕ → Pair
pair_at s number key =
    pair_in (option_map (λ (node : Node). node.replica) (slice_get s.nodes number)) key

-- the key of a request
abbrev pub key_of : Request → List ℕ
key_of (Query op key) = key
key_of (Put op key tag value) = key

-- a replica that holds a pair of that tag and value is asked, and tells it; or a pair is put, which
-- it takes if the pair's tag is above its own, and else keeps its own
unfoldable pub handled_text : Tag → Option (List ℕ) → Request → List ℕ
handled_text own value (Query op key) =
    codes " holds " ++ pair_text own value ++ codes " for " ++ key
handled_text own value (Put op key tag put) =
    if is_lt (tag_cmp own tag)
    then codes " takes " ++ pair_text tag put ++ codes " for " ++ key
    else codes " already holds " ++ tag_text own ++ codes " for " ++ key
    ++ codes ", which it keeps"

-- what a reply says of the replica that it is from
unfoldable pub reply_text : Reply → List ℕ
reply_text (Held op replica tag value) =
    numbered (codes " hears that replica ") replica ++ codes " holds " ++ pair_text tag value
reply_text (Kept op replica) =
    numbered (codes " hears that replica ") replica ++ codes " has its pair or a newer one"

-- a message arrives: at a replica, which handles it, or at a client, which hears it
unfoldable pub message_text : System → Message → List ℕ
message_text s (ToReplica number request) =
    numbered (codes " arrives: replica ") number
    ++ handled_text (pair_at s number (key_of request)).tag
    (pair_at s number (key_of request)).value request
message_text s (ToClient name reply) =
    numbered (codes " arrives: client ") name ++ reply_text reply

-- the message of a flight arrives, if the flight has a copy
abbrev pub arrival_text : System → Option Message → List ℕ
arrival_text s None = []
arrival_text s (Some message) = message_text s message

-- ---- what is told of a step before its effect

-- the client of that name
abbrev pub client_at : System → ℕ → Option Client
client_at s name = map.get s.members.clients name

-- who takes the step, and what it does
unfoldable pub act_text : System → Step → List ℕ
act_text s (step.Join name) = numbered (codes "client ") name ++ codes " joins"
act_text s (step.Invoke name key action) =
    numbered (codes "client ") name ++ begun_text key action
act_text s (step.Send name replica) = numbered (codes "client ") name
    ++ sent_text replica (option_and_then request_of (client_at s name))
act_text s (step.Deliver flight) =
    numbered (codes "message ") flight ++ arrival_text s (message_of s.pool.flights flight)
act_text s (step.Lose flight) = numbered (codes "a copy of message ") flight ++ codes " is lost"
act_text s (step.Repeat flight) =
    numbered (codes "message ") flight ++ codes " gets one more copy"
act_text s (step.Respond name) = numbered (codes "client ") name
    ++ answer_text (option_and_then answer_of (client_at s name))
act_text s (step.StopClient name) = numbered (codes "client ") name ++ codes " stops for good"
act_text s (step.StopReplica replica) =
    numbered (codes "replica ") replica ++ codes " goes down, and keeps what it stored"
act_text s (step.StartReplica replica) =
    numbered (codes "replica ") replica ++ codes " comes up, with what it stored"

-- ---- what a client has counted

-- the replica that a reply is from
abbrev pub replier : Reply → ℕ
replier (Held op replica tag value) = replica
replier (Kept op replica) = replica

-- how many votes end a phase: those of an ask quorum while the client asks, else those of a put
-- quorum
abbrev pub votes_needed : Quorums → Phase → ℕ
votes_needed quorums Ask = quorums.ask
votes_needed quorums other = quorums.put

-- the replicas that the client counted in this phase, a further one, the votes of all of them, and
-- how many are needed
abbrev pub count_by : Quorums → Client → ℕ → Count
count_by quorums client replica = record {
  earlier = counted_by client;
  replica = replica;
  votes = votes_of quorums.votes (finite.insert (counted_by client) replica);
  needed = votes_needed quorums (phase_of client);
}

-- what a client counts with the replica of a reply; nothing if nobody of that name joined
abbrev pub count_at : Quorums → Option Client → Reply → Option Count
count_at quorums None reply = None
count_at quorums (Some client) reply = Some (count_by quorums client (replier reply))

-- what the client that a message is for counts with it
abbrev pub count_with : System → Option Message → Option Count
count_with s (Some (ToClient name reply)) =
    count_at s.config.quorums (client_at s name) reply
count_with s other = None

-- what the client that hears a reply by the step counts with it
abbrev pub count_of : System → Step → Option Count
count_of s (step.Deliver flight) = count_with s (message_of s.pool.flights flight)
count_of s other = None

-- the members of a set below a number, with a comma after each
unfoldable pub members_text : Replicas → ℕ → List ℕ
members_text set zero = []
members_text set (suc n) =
    members_text set n ++ (if finite.contains set n then decimal n ++ codes ", " else [])

-- the replicas that a client has counted, the last one at the end
unfoldable pub counted_text : Option Count → List ℕ
counted_text None = []
counted_text (Some count) =
    codes "; it has counted " ++ members_text count.earlier 15 ++ decimal count.replica

-- how many votes a client has counted, of those that it needs
unfoldable pub votes_text : Option Count → List ℕ
votes_text None = []
votes_text (Some count) =
    numbered (codes ": ") count.votes ++ numbered (codes " of ") count.needed ++ codes " votes"

-- ---- what comes of a step

-- what a client makes of a reply
unfoldable pub taken_text : Option Count → Taken → List ℕ
taken_text count taken.Stale = codes "; the reply is stale and changes nothing"
taken_text count taken.Counted = counted_text count ++ votes_text count
taken_text count (taken.Noted tag) = counted_text count
    ++ codes ": an ask quorum; it notes " ++ tag_text tag ++ codes " and puts"
taken_text count (taken.Agreed tag) = counted_text count
    ++ codes ": an ask quorum that agrees on " ++ tag_text tag
    ++ codes "; its call is ready without a write-back"
taken_text count taken.Ready = counted_text count ++ codes ": a put quorum; its call is ready"

-- the number that a step gives, or what a client makes of a reply
unfoldable pub effect_text : Option Count → Effect → List ℕ
effect_text count (effect.Invoked op) = numbered (codes ": call ") op.0 ++ codes "; it asks"
effect_text count (effect.Sent flight) = numbered (codes ": message ") flight
effect_text count (effect.Answered flight) = numbered (codes ", and answers: message ") flight
effect_text count (effect.Taken taken) = taken_text count taken
effect_text count (effect.Responded op) =
    numbered (codes ": call ") op.0 ++ codes " is completed"
effect_text count other = []

-- ---- all of it

-- a step is told by its words and why it is refused, or by what it does and what comes of it
unfoldable pub told : System → Step → Option Refusal → Option Effect → List ℕ
told s step (Some why) effect = step_words step ++ refusal_text why
told s step None (Some effect) = act_text s step ++ effect_text (count_of s step) effect
told s step None None = []

-- what is told of a step that is to be taken in the system
abbrev pub step_text : System → Step → List ℕ
step_text s step = told s step (refusal_of s step) (effect_of s step)
