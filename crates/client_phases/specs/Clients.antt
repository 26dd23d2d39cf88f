-- A client and its calls (Lynch and Shvartsman 1997).
use Rattle.std.specs.Prelude.{ℕ, List, Option, Some, None}
use Rattle.std.specs.FinSet as finite
use Rattle.tag.specs.declared.numbers.OpId.{OpId}
use Rattle.tag.specs.declared.actions.Action.{Action}
use Rattle.tag.specs.declared.actions.Returned.{Returned}
use Rattle.quorum.specs.Sets.{Replicas}
use Rattle.quorum.specs.Quorums.{Quorums}
use Rattle.replica.specs.declared.replies.Reply.{Reply}
use Rattle.replica.specs.declared.requests.Request.{Request}
use Rattle.client_phases.specs.declared.rules.ReadMode.{ReadMode}
use Rattle.client_phases.specs.declared.outcomes.Phase.{Phase}
use Rattle.client_phases.specs.declared.outcomes.Phase.TheVariants as phase
use Rattle.client_phases.specs.declared.outcomes.Taken.{Taken}
use Rattle.client_phases.specs.declared.states.State.{State}
use Rattle.client_phases.specs.declared.states.State.TheVariants.{Idle, Ask, Put, Ready, Stopped}
use Rattle.client_phases.specs.Calls.{put_of, answer_from}
use Rattle.client_phases.specs.Asking.{opening_of, query_of}
use Rattle.client_phases.specs.States.{reply_outcome, MayReceiveIn}
-- a client: its rules and its state
pub use Rattle.client_phases.specs.declared.clients.Client.{Client}

-- an idle client
abbrev pub client_of : ℕ → Quorums → ReadMode → Client
client_of name quorums reads =
    record { rules = record { name = name; quorums = quorums; reads = reads }; state = Idle }

-- the phase of a state
abbrev phase_in : State → Phase
phase_in Idle = phase.Idle
phase_in (Ask asking) = phase.Ask
phase_in (Put chosen counted) = phase.Put
phase_in (Ready chosen) = phase.Ready
phase_in Stopped = phase.Stopped

-- the phase of a client
abbrev pub phase_of : Client → Phase
phase_of client = phase_in client.state

-- the client that begins to ask for a call
abbrev pub client_after_invoke : Client → OpId → List ℕ → Action → Client
client_after_invoke client op key action =
    record client { state = Ask (opening_of (record { op = op; key = key; action = action })) }

-- what a client sends in a state
abbrev request_in : State → Option Request
request_in (Ask asking) = Some (query_of asking)
request_in (Put chosen counted) = Some (put_of chosen)
request_in state = None

-- what a client sends: a query while it asks, its pair while it puts
abbrev pub request_of : Client → Option Request
request_of client = request_in client.state

-- a client may receive the reply
abbrev pub MayReceive : Client → Reply → Type 0
MayReceive client reply = MayReceiveIn client.rules client.state reply

-- what a client makes of a reply
abbrev pub reply_result : Client → Reply → Taken
reply_result client reply = (reply_outcome client.rules client.state reply).1

-- the client after a reply
abbrev pub client_after : Client → Reply → Client
client_after client reply =
    record client { state = (reply_outcome client.rules client.state reply).0 }

-- the answer of a state that is ready
abbrev answer_in : State → Option Returned
answer_in (Ready chosen) = Some (answer_from chosen)
answer_in state = None

-- a client's answer, if it is ready
abbrev pub answer_of : Client → Option Returned
answer_of client = answer_in client.state

-- the client that answered
abbrev pub client_after_respond : Client → Client
client_after_respond client = record client { state = Idle }

-- the client that stopped
abbrev pub client_after_stop : Client → Client
client_after_stop client = record client { state = Stopped }

-- the pending call of a state
abbrev pending_in : State → Option OpId
pending_in (Ask asking) = Some asking.call.op
pending_in (Put chosen counted) = Some chosen.call.op
pending_in (Ready chosen) = Some chosen.call.op
pending_in Idle = None
pending_in Stopped = None

-- a client's pending call
abbrev pub pending_of : Client → Option OpId
pending_of client = pending_in client.state

-- the replicas that are counted in a state
abbrev counted_in : State → Replicas
counted_in (Ask asking) = asking.counted
counted_in (Put chosen counted) = counted
counted_in state = finite.empty

-- the replicas that a client counted in this phase
abbrev pub counted_by : Client → Replicas
counted_by client = counted_in client.state
