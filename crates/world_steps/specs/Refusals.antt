-- When a step is refused: for each kind of step the refusals that it may meet, and when each comes,
-- the lowest number first.
use Rattle.std.specs.Prelude.{ℕ, Bool, true, false, not, List, [], ◌∷◌, Option, None, Some}
use Rattle.std.specs.Prelude.{option_map, is_none, length, nat_le, nat_eq, slice_get, if◌then◌else◌}
use Rattle.std.specs.FinMap as finite
use Rattle.client_phases.specs.Clients.{phase_of}
use Rattle.client_phases.specs.declared.outcomes.Phase.{Phase}
use Rattle.client_phases.specs.declared.outcomes.Phase.TheVariants as phase
use Rattle.network.specs.Flights.{copies_of, message_of, copy_limit}
use Rattle.network.specs.declared.messages.Message.{Message}
use Rattle.network.specs.declared.messages.Message.TheVariants.{ToReplica, ToClient}
use Rattle.recorder.specs.Histories.{call_count}
use Rattle.world_steps.specs.declared.nodes.Node.{Node}
use Rattle.world_steps.specs.declared.system.System.{System}
use Rattle.world_steps.specs.declared.step.Step.{Step}
use Rattle.world_steps.specs.declared.step.Step.TheVariants as step
use Rattle.world_steps.specs.declared.refusal.Refusal.{Refusal}
use Rattle.world_steps.specs.declared.refusal.Refusal.TheVariants.{NoSuchReplica, NoSuchClient}
use Rattle.world_steps.specs.declared.refusal.Refusal.TheVariants.{ClientTaken, ClientStopped}
use Rattle.world_steps.specs.declared.refusal.Refusal.TheVariants.{ClientBusy, NothingToSend}
use Rattle.world_steps.specs.declared.refusal.Refusal.TheVariants.{NotInFlight, NotReady}
use Rattle.world_steps.specs.declared.refusal.Refusal.TheVariants.{ReplicaDown, ReplicaUp}
use Rattle.world_steps.specs.declared.refusal.Refusal.TheVariants.{CopiesFull, OpsFull, FlightsFull}

infix 68 ◌when◌
-- the phase of a client, if one of that name joined
abbrev pub phase_at : System → ℕ → Option Phase
phase_at s name = option_map phase_of (finite.get s.members.clients name)

-- a client joined, and is stopped
abbrev pub is_stopped : Option Phase → Bool
is_stopped (Some phase.Stopped) = true
is_stopped other = false

-- a client joined, and is idle
abbrev pub is_idle : Option Phase → Bool
is_idle (Some phase.Idle) = true
is_idle other = false

-- a client joined, and is ready
abbrev pub is_ready : Option Phase → Bool
is_ready (Some phase.Ready) = true
is_ready other = false

-- a client joined, and asks or puts
abbrev pub has_request : Option Phase → Bool
has_request (Some phase.Ask) = true
has_request (Some phase.Put) = true
has_request other = false

-- there is a replica, and it is down
abbrev pub is_down : Option Node → Bool
is_down (Some node) = not node.is_up
is_down None = false

-- ---- what refuses a step

-- the number isn't below the count of replicas
abbrev pub no_such_replica : System → ℕ → Bool
no_such_replica s number = nat_le (length s.nodes) number

-- the replica is down
abbrev pub replica_down : System → ℕ → Bool
replica_down s number = is_down (slice_get s.nodes number)

-- no client of that name joined
abbrev pub no_such_client : System → ℕ → Bool
no_such_client s name = is_none (finite.get s.members.clients name)

-- the client is stopped
abbrev pub client_stopped : System → ℕ → Bool
client_stopped s name = is_stopped (phase_at s name)

-- as many calls were invoked as may be
abbrev pub calls_full : System → Bool
calls_full s = nat_le s.history.limit (call_count s.history.rows)

-- as many messages were sent as may be
abbrev pub flights_full : System → Bool
flights_full s = nat_le s.pool.limit s.pool.sent

-- no flight of that number has a copy
abbrev pub not_in_flight : System → ℕ → Bool
not_in_flight s flight = is_none (finite.get s.pool.flights flight)

-- the flight has as many copies as it may have
abbrev pub copies_full : System → ℕ → Bool
copies_full s flight = nat_eq (copies_of s.pool.flights flight) copy_limit

-- a row of the table: a refusal, and whether it comes
abbrev pub ◌when◌ : Refusal → Bool → Refusal × Bool
why when comes = (why, comes)

-- refusals, each with whether it comes
abbrev pub Table : Type 0
Table = List (Refusal × Bool)

-- a delivery's refusals go by whom the message is for, if the flight has one
abbrev pub arrival_refusals : System → Option Message → Table
arrival_refusals s None =
    NotInFlight when true ∷ []
arrival_refusals s (Some (ToReplica number request)) =
    ReplicaDown when replica_down s number ∷
    FlightsFull when flights_full s ∷ []
arrival_refusals s (Some (ToClient name reply)) =
    ClientStopped when client_stopped s name ∷ []

-- the table of refusals
abbrev pub refusals : System → Step → Table
refusals s (step.Join name) =
    ClientTaken when not (no_such_client s name) ∷ []
refusals s (step.Invoke name key action) =
    NoSuchClient when no_such_client s name ∷
    ClientStopped when client_stopped s name ∷
    ClientBusy when not (is_idle (phase_at s name)) ∷
    OpsFull when calls_full s ∷ []
refusals s (step.Send name replica) =
    NoSuchReplica when no_such_replica s replica ∷
    NoSuchClient when no_such_client s name ∷
    ClientStopped when client_stopped s name ∷
    NothingToSend when not (has_request (phase_at s name)) ∷
    FlightsFull when flights_full s ∷ []
refusals s (step.Deliver flight) =
    arrival_refusals s (message_of s.pool.flights flight)
refusals s (step.Lose flight) =
    NotInFlight when not_in_flight s flight ∷ []
refusals s (step.Repeat flight) =
    NotInFlight when not_in_flight s flight ∷
    CopiesFull when copies_full s flight ∷ []
refusals s (step.Respond name) =
    NoSuchClient when no_such_client s name ∷
    ClientStopped when client_stopped s name ∷
    NotReady when not (is_ready (phase_at s name)) ∷ []
refusals s (step.StopClient name) =
    NoSuchClient when no_such_client s name ∷
    ClientStopped when client_stopped s name ∷ []
refusals s (step.StopReplica number) =
    NoSuchReplica when no_such_replica s number ∷
    ReplicaDown when replica_down s number ∷ []
refusals s (step.StartReplica number) =
    NoSuchReplica when no_such_replica s number ∷
    ReplicaUp when not (replica_down s number) ∷ []

-- the first refusal that comes
abbrev pub first_of : Table → Option Refusal
first_of [] = None
first_of (row ∷ rows) = if row.1 then Some row.0 else first_of rows

-- why a step is refused, if it is
abbrev pub refusal_of : System → Step → Option Refusal
refusal_of s step = first_of (refusals s step)
