-- The system of clients, replicas and the network between them, and what each step makes of it
-- (Attiya, Bar-Noy and Dolev 1995; Lynch and Shvartsman 1997). What a step doesn't name stays as it
-- was.
use Rattle.std.specs.Prelude.{ℕ, Bool, true, false, List, [], Option, None, Some, length, slice_get}
use Rattle.std.specs.Prelude.{slice_set}
use Rattle.std.specs.FinMap as finite
use Rattle.tag.specs.declared.actions.Action.{Action}
use Rattle.tag.specs.declared.numbers.OpId.{OpId}
use Rattle.replica.specs.Replicas.{Replica, replica_after, reply_of}
use Rattle.replica.specs.declared.requests.Request.{Request}
use Rattle.replica.specs.declared.requests.Request.TheVariants.{Query, Put}
use Rattle.replica.specs.declared.replies.Reply.{Reply}
use Rattle.replica.specs.declared.replies.Reply.TheVariants.{Held, Kept}
use Rattle.client_phases.specs.Calls.{answer_from}
use Rattle.client_phases.specs.declared.clients.Client.{Client}
use Rattle.client_phases.specs.Clients.{client_of, client_after, client_after_invoke, request_of}
use Rattle.client_phases.specs.Clients.{client_after_respond, client_after_stop, reply_result}
use Rattle.client_phases.specs.declared.outcomes.Taken.{Taken}
use Rattle.client_phases.specs.declared.outcomes.Taken.TheVariants.{Noted, Agreed}
use Rattle.client_phases.specs.declared.states.State.{State}
use Rattle.client_phases.specs.declared.states.State.TheVariants.{Ready}
use Rattle.network.specs.Flights.{message_of}
use Rattle.network.specs.Pools.{silent_pool, with_sent, with_one_less, with_one_more}
use Rattle.network.specs.declared.messages.Message.{Message}
use Rattle.network.specs.declared.messages.Message.TheVariants.{ToReplica, ToClient}
use Rattle.recorder.specs.Answers.{with_row}
use Rattle.recorder.specs.Histories.{Recorded, call_count, caller_of}
use Rattle.recorder.specs.declared.row.Row.TheVariants.{Invoke, Note, Respond}
use Rattle.world_steps.specs.Configs.{Config}
use Rattle.world_steps.specs.Nodes.{nodes_below}
use Rattle.world_steps.specs.declared.nodes.Node.{Node}
use Rattle.world_steps.specs.Clients.{with_client, with_member}
use Rattle.world_steps.specs.declared.step.Step.{Step}
use Rattle.world_steps.specs.declared.step.Step.TheVariants as step
use Rattle.world_steps.specs.declared.effect.Effect.{Effect}
use Rattle.world_steps.specs.declared.effect.Effect.TheVariants as effect
-- the configuration, the clients that joined, the replicas by number, the network, and the record
pub use Rattle.world_steps.specs.declared.system.System.{System}

-- before the first step: no client, all replicas up and empty, nothing sent, nothing recorded
abbrev pub opening : Config → System
opening config = record {
  config = config;
  members = record { joined = []; clients = finite.empty };
  nodes = nodes_below (length config.quorums.votes);
  pool = silent_pool config.flights;
  history = record { rows = []; limit = config.calls };
}

-- ---- what a step makes of the system if nothing refuses it

-- a client joins, idle
abbrev pub join : System → ℕ → System
join s name = record s {
  members = with_member s.members name (client_of name s.config.quorums
      s.config.reads);
}

-- the client of a name becomes another
abbrev pub set_client : System → ℕ → Client → System
set_client s name client = record s { members = with_client s.members name client }

-- the number of the next call
abbrev pub next_call : System → OpId
next_call s = record { 0 = call_count s.history.rows }

-- a client asks for a further call, which is recorded
abbrev pub invoke : System → ℕ → List ℕ → Action → Option Client → System
invoke s name key action (Some client) =
    record (set_client s name (client_after_invoke client (next_call s) key action))
    { history = with_row s.history (Invoke (next_call s) name key action) }
invoke s name key action None = s

-- a request is sent to a replica
abbrev pub send_to : System → ℕ → Option Request → System
send_to s replica (Some request) = record s { pool = with_sent s.pool (ToReplica replica request) }
send_to s replica None = s

-- a client's present request is sent to a replica
abbrev pub send : System → ℕ → Option Client → System
send s replica (Some client) = send_to s replica (request_of client)
send s replica None = s

-- the call of a request
abbrev pub op_of : Request → OpId
op_of (Query op key) = op
op_of (Put op key tag value) = op

-- the replica of a node becomes another
abbrev pub with_replica : System → ℕ → Node → Replica → System
with_replica s number node replica =
    record s { nodes = slice_set s.nodes number (record node { replica = replica }) }

-- a replica handles a request, and its reply is sent to the client that made the call
abbrev pub handle : System → ℕ → Request → Option Node → Option ℕ → System
handle s number request (Some node) (Some client) = record s {
  nodes = slice_set s.nodes number (record node { replica = replica_after node.replica request });
  pool = with_sent s.pool (ToClient client (reply_of node.replica request));
}
handle s number request _ _ = s

-- the call of a reply
abbrev pub answered_op : Reply → OpId
answered_op (Held op replica tag value) = op
answered_op (Kept op replica) = op

-- a call's note is recorded as it is made
abbrev pub with_note : Recorded → OpId → Taken → Recorded
with_note history op (Noted tag) = with_row history (Note op tag)
with_note history op (Agreed tag) = with_row history (Note op tag)
with_note history op outcome = history

-- a client takes a reply
abbrev pub take : System → ℕ → Reply → Option Client → System
take s name reply (Some client) =
    record (set_client s name (client_after client reply))
    { history = with_note s.history (answered_op reply) (reply_result client reply) }
take s name reply None = s

-- a message comes to whom it was sent
abbrev pub arrive : System → Message → System
arrive s (ToReplica number request) =
    handle s number request (slice_get s.nodes number) (caller_of s.history.rows (op_of request))
arrive s (ToClient name reply) = take s name reply (finite.get s.members.clients name)

-- a copy of a flight goes
abbrev pub lose : System → ℕ → System
lose s flight = record s { pool = with_one_less s.pool flight }

-- a copy of a flight more
abbrev pub repeat : System → ℕ → System
repeat s flight = record s { pool = with_one_more s.pool flight }

-- a copy of a flight comes to whom it was sent, and goes
abbrev pub deliver : System → ℕ → Option Message → System
deliver s flight (Some message) = lose (arrive s message) flight
deliver s flight None = s

-- a client in that state answers, if it is ready
abbrev respond_in : System → ℕ → Client → State → System
respond_in s name client (Ready chosen) =
    record (set_client s name (client_after_respond client))
    { history = with_row s.history (Respond chosen.call.op (answer_from chosen)) }
respond_in s name client state = s

-- a client that is ready answers, which is recorded
abbrev pub respond : System → ℕ → Option Client → System
respond s name (Some client) = respond_in s name client client.state
respond s name None = s

-- a client stops for good
abbrev pub stop : System → ℕ → Option Client → System
stop s name (Some client) = set_client s name (client_after_stop client)
stop s name None = s

-- a replica goes up or down with what it stored
abbrev pub set_up : System → ℕ → Bool → Option Node → System
set_up s number is_up (Some node) =
    record s { nodes = slice_set s.nodes number (record node { is_up = is_up }) }
set_up s number is_up None = s

-- the system after a step that nothing refuses
abbrev pub system_after : System → Step → System
system_after s (step.Join name) = join s name
system_after s (step.Invoke name key action) =
    invoke s name key action (finite.get s.members.clients name)
system_after s (step.Send name replica) = send s replica (finite.get s.members.clients name)
system_after s (step.Deliver flight) = deliver s flight (message_of s.pool.flights flight)
system_after s (step.Lose flight) = lose s flight
system_after s (step.Repeat flight) = repeat s flight
system_after s (step.Respond name) = respond s name (finite.get s.members.clients name)
system_after s (step.StopClient name) = stop s name (finite.get s.members.clients name)
system_after s (step.StopReplica number) = set_up s number false (slice_get s.nodes number)
system_after s (step.StartReplica number) = set_up s number true (slice_get s.nodes number)

-- ---- what a step answers if nothing refuses it

-- what a client makes of a reply
abbrev pub take_effect : Reply → Option Client → Option Effect
take_effect reply (Some client) = Some (effect.Taken (reply_result client reply))
take_effect reply None = None

-- what comes of a delivery: a reply with the next number, or what a client makes of one
abbrev pub arrival_effect : System → Option Message → Option Effect
arrival_effect s (Some (ToReplica number request)) = Some (effect.Answered s.pool.sent)
arrival_effect s (Some (ToClient name reply)) =
    take_effect reply (finite.get s.members.clients name)
arrival_effect s None = None

-- the call that is answered in a state
abbrev response_effect : State → Option Effect
response_effect (Ready chosen) = Some (effect.Responded chosen.call.op)
response_effect state = None

-- the call that a client answers
abbrev respond_effect : Option Client → Option Effect
respond_effect (Some client) = response_effect client.state
respond_effect None = None

-- what a step answers
abbrev pub effect_of : System → Step → Option Effect
effect_of s (step.Join name) = Some effect.Joined
effect_of s (step.Invoke name key action) = Some (effect.Invoked (next_call s))
effect_of s (step.Send name replica) = Some (effect.Sent s.pool.sent)
effect_of s (step.Deliver flight) = arrival_effect s (message_of s.pool.flights flight)
effect_of s (step.Lose flight) = Some effect.Lost
effect_of s (step.Repeat flight) = Some effect.Repeated
effect_of s (step.Respond name) = respond_effect (finite.get s.members.clients name)
effect_of s (step.StopClient name) = Some effect.Stopped
effect_of s (step.StopReplica number) = Some effect.Stopped
effect_of s (step.StartReplica number) = Some effect.Started
