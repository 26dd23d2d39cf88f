-- What a step finds in a sound system that doesn't refuse it, and what it leaves.
use Rattle.std.specs.Prelude.{ℕ, ◌≡◌, ◌<◌, Some, None, Result, Ok, Err, length, slice_get}
use Rattle.std.specs.FinMap as finite
use Rattle.tag.specs.declared.memory.Memory.{Memory}
use Rattle.tag.specs.declared.actions.Action.{Action}
use Rattle.tag.specs.declared.actions.Returned.{Returned}
use Rattle.tag.specs.declared.numbers.OpId.{OpId}
use Rattle.replica.specs.declared.requests.Request.{Request}
use Rattle.replica.specs.declared.replies.Reply.{Reply}
use Rattle.client_phases.specs.Calls.{Chosen, answer_from}
use Rattle.client_phases.specs.Clients.{MayReceive, answer_of, pending_of, phase_of, request_of}
use Rattle.client_phases.specs.Clients.{reply_result}
use Rattle.client_phases.specs.declared.clients.Client.{Client}
use Rattle.client_phases.specs.declared.outcomes.Phase.TheVariants as phase
use Rattle.client_phases.specs.declared.outcomes.Taken.{Taken}
use Rattle.client_phases.specs.declared.outcomes.Taken.TheVariants.{Noted, Agreed}
use Rattle.client_phases.specs.declared.states.State.TheVariants.{Ready}
use Rattle.network.specs.Flights.{IsMessageOf, copies_of, message_of, copy_limit}
use Rattle.network.specs.declared.messages.Message.{Message}
use Rattle.network.specs.declared.messages.Message.TheVariants.{ToReplica, ToClient}
use Rattle.recorder.specs.Histories.{FitsAction, IsBusy, IsPendingCall, MayFollow, call_count}
use Rattle.recorder.specs.Histories.{caller_of}
use Rattle.recorder.specs.declared.row.Row.TheVariants.{Note, Respond}
use Rattle.world_steps.specs.Runs.{MayGrow}
use Rattle.world_steps.specs.Systems.{system_after, effect_of, op_of, answered_op}
use Rattle.world_steps.specs.declared.nodes.Node.{Node}
use Rattle.world_steps.specs.declared.step.Step.{Step}
use Rattle.world_steps.specs.declared.step.Step.TheVariants as step
use Rattle.world_steps.specs.declared.system.System.{System}
use Rattle.world_steps.specs.declared.effect.Effect.{Effect}

module _ (s : System) where
  -- the client of that name
  abbrev pub IsClient : ℕ → Client → Type 0
  IsClient name client = finite.get s.members.clients name ≡ Some client

  -- an idle client without a pending call, and room for one
  pub record MayInvoke (name : ℕ) : Type 0 where
    pub client : Client
    pub is : IsClient name client
    pub idle : phase_of client ≡ phase.Idle
    pub not_busy : IsBusy s.history.rows name → ⊥
    pub room : call_count s.history.rows < s.history.limit

  -- a client with a request, and room for a message
  pub record MaySend (name : ℕ) : Type 0 where
    pub client : Client
    pub is : IsClient name client
    pub request : Request
    pub sends : request_of client ≡ Some request
    pub room : s.pool.sent < s.pool.limit

  -- a replica of that number, the client that made the request's call, and room for the reply
  pub record MayHandle (number : ℕ) (request : Request) : Type 0 where
    pub node : Node
    pub is : slice_get s.nodes number ≡ Some node
    pub numbered : node.replica.number ≡ number
    pub client : ℕ
    pub caller : caller_of s.history.rows (op_of request) ≡ Some client
    pub room : s.pool.sent < s.pool.limit

  -- a flight with a request to a replica of those that there are
  pub record MayAdopt (flight : ℕ) : Type 0 where
    pub number : ℕ
    pub request : Request
    pub is : IsMessageOf s.pool.flights flight (ToReplica number request)
    pub within : number < length s.nodes

  -- a flight with a request that its replica may handle
  pub record MayServe (flight : ℕ) : Type 0 where
    pub number : ℕ
    pub request : Request
    pub is : IsMessageOf s.pool.flights flight (ToReplica number request)
    pub handles : MayHandle number request

  -- the call may be noted
  abbrev pub MayNote : OpId → Taken → Type 0
  MayNote op (Noted tag) = MayFollow s.history.rows (Note op tag)
  MayNote op (Agreed tag) = MayFollow s.history.rows (Note op tag)
  MayNote op outcome = Unit {0}

  -- a client that may take the reply, and whose call may be noted then
  pub record MayHear (name : ℕ) (reply : Reply) : Type 0 where
    pub client : Client
    pub is : IsClient name client
    pub takes : MayReceive client reply
    pub notes : MayNote (answered_op reply) (reply_result client reply)

  -- the message may come to whom it was sent
  abbrev pub MayArrive : Message → Type 0
  MayArrive (ToReplica number request) = MayHandle number request
  MayArrive (ToClient name reply) = MayHear name reply

  -- a message that may arrive
  pub record MayDeliver (flight : ℕ) : Type 0 where
    pub message : Message
    pub is : message_of s.pool.flights flight ≡ Some message
    pub arrives : MayArrive message

  -- the response may follow, and is of its call's kind
  pub record MayAnswer (op : OpId) (returned : Returned) : Type 0 where
    pub follows : MayFollow s.history.rows (Respond op returned)
    pub fits : (client : ℕ) (action : Action) → IsPendingCall s.history.rows op client action
        → FitsAction action returned

  -- a client that is ready, whose call may have its answer
  pub record MayRespond (name : ℕ) : Type 0 where
    pub client : Client
    pub is : IsClient name client
    pub chosen : Chosen
    pub ready : client.state ≡ Ready chosen
    pub answers : MayAnswer chosen.call.op (answer_from chosen)

  -- the client is ready to answer that call so
  pub record IsReady (name : ℕ) (op : OpId) (returned : Returned) : Type 0 where
    pub state : Client
    pub there : IsClient name state
    pub pending : Some op ≡ pending_of state
    pub answer : Some returned ≡ answer_of state

  -- a client of that name
  pub record MayStop (name : ℕ) : Type 0 where
    pub client : Client
    pub is : IsClient name client

  -- a flight that has a copy, and fewer than 1,000
  pub record MayRepeat (flight : ℕ) : Type 0 where
    pub is_there : finite.get s.pool.flights flight ≡ None → ⊥
    pub not_full : copies_of s.pool.flights flight ≡ copy_limit → ⊥

  -- what a step finds, by its kind
  abbrev pub MayMove : Step → Type 0
  MayMove (step.Join name) = Unit {0}
  MayMove (step.Invoke name key action) = MayInvoke name
  MayMove (step.Send name replica) = MaySend name
  MayMove (step.Deliver flight) = MayDeliver flight
  MayMove (step.Lose flight) = Unit {0}
  MayMove (step.Repeat flight) = MayRepeat flight
  MayMove (step.Respond name) = MayRespond name
  MayMove (step.StopClient name) = MayStop name
  MayMove (step.StopReplica number) = number < length s.nodes
  MayMove (step.StartReplica number) = number < length s.nodes

-- the system moved; or an allocation that the step may make was refused, and nothing changed
abbrev pub Moves : System → Step → Result Effect Memory → System → Type 0
Moves old step (Ok effect) new = (effect_of old step ≡ Some effect) × (new ≡ system_after old step)
Moves old step (Err why) new = MayGrow step × (new ≡ old)
