-- A round: its three steps, none of which is refused, and the system that they leave.
use Rattle.std.proofs.Common.{◌≡◌, ℕ, ◌+◌, ◌≤◌, Bool, true, false, cond, not, is_none, length, slice_set, List, Option, None, Some, option_map, slice_get, refl, sym, ◌∙◌, ap, subst, arith}
use Rattle.std.proofs.lemmas.Bool.{lt-leb}
use Rattle.std.proofs.lemmas.Option.{slice_get_within}
use Rattle.std.specs.FinMap as finite
use Rattle.replica.specs.Replicas.{replica_after, reply_of}
use Rattle.replica.specs.declared.requests.Request.{Request}
use Rattle.client_phases.specs.Clients.{client_after, phase_of, request_of, reply_result}
use Rattle.client_phases.specs.declared.clients.Client.{Client}
use Rattle.client_phases.specs.declared.rules.Rules.{Rules}
use Rattle.client_phases.specs.declared.states.State.{State}
use Rattle.client_phases.specs.declared.states.State.TheVariants.{Idle, Ask, Put, Ready, Stopped}
use Rattle.network.specs.Flights.{Flights, message_of, one_less}
use Rattle.network.specs.Pools.{Pool, with_sent, with_one_less}
use Rattle.network.specs.declared.flights.Flight.{Flight}
use Rattle.network.specs.declared.messages.Message.TheVariants.{ToReplica, ToClient}
use Rattle.recorder.specs.Histories.{caller_of}
use Rattle.world_steps.specs.Clients.{with_client}
use Rattle.world_steps.specs.Moves.{IsClient}
use Rattle.world_steps.specs.Refusals.{refusal_of, arrival_refusals, first_of, phase_at, is_stopped, has_request, is_down, no_such_client, no_such_replica, flights_full}
use Rattle.world_steps.specs.Runs.{AreAccepted, next, after_from}
use Rattle.world_steps.specs.Systems.{send, send_to, deliver, handle, lose, take, op_of, answered_op, with_note}
use Rattle.world_steps.specs.declared.nodes.Node.{Node}
use Rattle.world_steps.specs.declared.refusal.Refusal.{Refusal}
use Rattle.world_steps.specs.declared.refusal.Refusal.TheVariants as refusal
use Rattle.world_steps.specs.declared.step.Step.TheVariants as step
use Rattle.world_steps.specs.declared.system.System.{System}
use Rattle.network.proofs.Lookups.{get_other, get_same, removed_other}
use Rattle.world_steps.proofs.Passed.{phase_is}
use Rattle.world_steps.proofs.StepAnswers.{next_moved}
use Rattle.world_settle.specs.Settling.{round}

-- ---- steps that aren't refused
pub pass : (why : Refusal) (test : Bool) (rest : Option Refusal) → test ≡ false → rest ≡ None → cond test (Some why) rest ≡ None
pass why true rest e r = absurd cc
pass why false rest e r = r

-- ---- a client with a request
asks_or_puts : (rules : Rules) (state : State) (request : Request) → request_of (record { rules = rules; state = state }) ≡ Some request
    → (is_stopped (Some (phase_of (record { rules = rules; state = state }))) ≡ false) × (has_request (Some (phase_of (record { rules = rules; state = state }))) ≡ true)
asks_or_puts rules (Ask asking) request e = (refl, refl)
asks_or_puts rules (Put chosen counted) request e = (refl, refl)
asks_or_puts rules Idle request e = absurd cc
asks_or_puts rules (Ready chosen) request e = absurd cc
asks_or_puts rules Stopped request e = absurd cc

pub sent_by : (s : System) (replica : ℕ) (client : Client) (request : Request) → request_of client ≡ Some request
    → send s replica (Some client) ≡ record s { pool = with_sent s.pool (ToReplica replica request) }
sent_by s replica client request e = ap (send_to s replica) e

-- ---- what a round finds: a client with a request, a replica that is up, who made the call, and room for two flights
pub record MayRound (s : System) (name replica : ℕ) (client : Client) (request : Request) (node : Node) : Type 0 where
  pub is : IsClient s name client
  pub sends : request_of client ≡ Some request
  pub there : slice_get s.nodes replica ≡ Some node
  pub up : node.is_up ≡ true
  pub caller : caller_of s.history.rows (op_of request) ≡ Some name
  pub room : s.pool.sent + 2 ≤ s.pool.limit

-- ---- the system after the first, the second and the third step
abbrev pub first_system : System → ℕ → Request → System
first_system s replica request = record s { pool = with_sent s.pool (ToReplica replica request) }

abbrev pub handled_nodes : System → ℕ → Request → Node → List Node
handled_nodes s replica request node = slice_set s.nodes replica (record node { replica = replica_after node.replica request })

-- both messages sent
abbrev pub both_sent : System → ℕ → ℕ → Request → Node → Pool
both_sent s name replica request node = with_sent (with_sent s.pool (ToReplica replica request)) (ToClient name (reply_of node.replica request))

abbrev pub second_system : System → ℕ → ℕ → Request → Node → System
second_system s name replica request node = record s {
  nodes = handled_nodes s replica request node;
  pool = with_one_less (both_sent s name replica request node) s.pool.sent;
}

abbrev pub third_system : System → ℕ → ℕ → Client → Request → Node → System
third_system s name replica client request node = record s {
  members = with_client s.members name (client_after client (reply_of node.replica request));
  nodes = handled_nodes s replica request node;
  pool = with_one_less (with_one_less (both_sent s name replica request node) s.pool.sent) (s.pool.sent + 1);
  history = with_note s.history (answered_op (reply_of node.replica request)) (reply_result client (reply_of node.replica request));
}

module _ (s : System) (name replica : ℕ) (client : Client) (request : Request) (node : Node) (may : MayRound s name replica client request node) where
  in_phase : is_stopped (phase_at s name) ≡ false
  in_phase = ap is_stopped (phase_is s name client may.is) ∙ (asks_or_puts client.rules client.state request may.sends).0

  pub asking_or_putting : has_request (phase_at s name) ≡ true
  asking_or_putting = ap has_request (phase_is s name client may.is) ∙ (asks_or_puts client.rules client.state request may.sends).1

  -- the request is sent
  send_taken : refusal_of s (step.Send name replica) ≡ None
  send_taken =
      let room = may.room in
      let below = slice_get_within s.nodes replica node may.there in
      pass refusal.NoSuchReplica (no_such_replica s replica) _ (lt-leb (length s.nodes) replica below)
      (pass refusal.NoSuchClient (no_such_client s name) _ (ap is_none may.is)
      (pass refusal.ClientStopped (is_stopped (phase_at s name)) _ in_phase
      (pass refusal.NothingToSend (not (has_request (phase_at s name))) _ (ap not asking_or_putting)
      (pass refusal.FlightsFull (flights_full s) None (lt-leb s.pool.limit s.pool.sent (omega (arith, room))) refl))))

  first_is : next s (step.Send name replica) ≡ first_system s replica request
  first_is = next_moved s (step.Send name replica) send_taken ∙ ap (send s replica) may.is ∙ sent_by s replica client request may.sends

  -- the request comes to the replica
  request_there : message_of (first_system s replica request).pool.flights s.pool.sent ≡ Some (ToReplica replica request)
  request_there = ap (option_map (λ (f : Flight). f.message)) (get_same s.pool.flights s.pool.sent (record { message = ToReplica replica request; copies = 1 }))

  request_taken : refusal_of (first_system s replica request) (step.Deliver s.pool.sent) ≡ None
  request_taken =
      let room = may.room in
      ap (λ o. first_of (arrival_refusals (first_system s replica request) o)) request_there
      ∙ pass refusal.ReplicaDown (is_down (slice_get s.nodes replica)) _ (ap is_down may.there ∙ ap not may.up)
      (pass refusal.FlightsFull (flights_full (first_system s replica request)) None (lt-leb s.pool.limit (s.pool.sent + 1) (omega (arith, room))) refl)

  second_is : next (first_system s replica request) (step.Deliver s.pool.sent) ≡ second_system s name replica request node
  second_is =
      let t : System = first_system s replica request in
      next_moved t (step.Deliver s.pool.sent) request_taken
      ∙ ap (deliver t s.pool.sent) request_there
      ∙ ap (λ o. lose (handle t replica request o (caller_of s.history.rows (op_of request))) s.pool.sent) may.there
      ∙ ap (λ o. lose (handle t replica request (Some node) o) s.pool.sent) may.caller

  -- the reply comes to the client
  first_flight : finite.get (both_sent s name replica request node).flights s.pool.sent ≡ Some (record { message = ToReplica replica request; copies = 1 })
  first_flight =
      get_other (with_sent s.pool (ToReplica replica request)).flights (s.pool.sent + 1) (record { message = ToClient name (reply_of node.replica request); copies = 1 }) s.pool.sent (λ e. omega arith)
      ∙ get_same s.pool.flights s.pool.sent (record { message = ToReplica replica request; copies = 1 })

  spent : (second_system s name replica request node).pool.flights ≡ finite.remove (both_sent s name replica request node).flights s.pool.sent
  spent = ap (one_less (both_sent s name replica request node).flights s.pool.sent) first_flight

  reply_there : message_of (second_system s name replica request node).pool.flights (s.pool.sent + 1) ≡ Some (ToClient name (reply_of node.replica request))
  reply_there =
      ap (λ (m : Flights). message_of m (s.pool.sent + 1)) spent
      ∙ ap (option_map (λ (f : Flight). f.message))
      (removed_other (both_sent s name replica request node).flights s.pool.sent (s.pool.sent + 1) (λ e. omega arith)
      ∙ get_same (with_sent s.pool (ToReplica replica request)).flights (s.pool.sent + 1) (record { message = ToClient name (reply_of node.replica request); copies = 1 }))

  reply_taken : refusal_of (second_system s name replica request node) (step.Deliver (s.pool.sent + 1)) ≡ None
  reply_taken =
      ap (λ o. first_of (arrival_refusals (second_system s name replica request node) o)) reply_there
      ∙ pass refusal.ClientStopped (is_stopped (phase_at s name)) None in_phase refl

  third_is : next (second_system s name replica request node) (step.Deliver (s.pool.sent + 1)) ≡ third_system s name replica client request node
  third_is =
      let t : System = second_system s name replica request node in
      next_moved t (step.Deliver (s.pool.sent + 1)) reply_taken
      ∙ ap (deliver t (s.pool.sent + 1)) reply_there
      ∙ ap (λ o. lose (take t name (reply_of node.replica request) o) (s.pool.sent + 1)) may.is

  -- ---- the round
  second_after : next (next s (step.Send name replica)) (step.Deliver s.pool.sent) ≡ second_system s name replica request node
  second_after = ap (λ t. next t (step.Deliver s.pool.sent)) first_is ∙ second_is

  pub round_is : after_from s (round s name replica) ≡ third_system s name replica client request node
  round_is = ap (λ t. next t (step.Deliver (s.pool.sent + 1))) second_after ∙ third_is

  pub round_taken : AreAccepted s (round s name replica)
  round_taken = (send_taken, (subst (λ t. refusal_of t (step.Deliver s.pool.sent) ≡ None) (sym first_is) request_taken, (subst (λ t. refusal_of t (step.Deliver (s.pool.sent + 1)) ≡ None) (sym second_after) reply_taken, tt)))
