-- What steps never take away, and what they add to the record.
use Rattle.std.specs.Prelude.{ℕ, ◌≡◌, true, List, [], ◌∷◌, ◌++◌, Option, Some, None}
use Rattle.std.specs.FinMap as finite
use Rattle.tag.specs.declared.actions.Action.{Action}
use Rattle.tag.specs.declared.numbers.OpId.{OpId}
use Rattle.client_phases.specs.declared.clients.Client.{Client}
use Rattle.network.specs.Flights.{message_of}
use Rattle.network.specs.declared.messages.Message.{Message}
use Rattle.network.specs.declared.messages.Message.TheVariants.{ToReplica, ToClient}
use Rattle.recorder.specs.declared.row.Row.{Row}
use Rattle.recorder.specs.declared.row.Row.TheVariants.{Invoke, Note, Respond}
use Rattle.world_steps.specs.Refusals.{is_stopped, phase_at}
use Rattle.world_steps.specs.Sound.{At}
use Rattle.world_steps.specs.declared.step.Step.{Step}
use Rattle.world_steps.specs.declared.step.Step.TheVariants as step
use Rattle.world_steps.specs.declared.system.System.{System}

-- a client of that name joined
abbrev pub HasJoined : System → ℕ → Type 0
HasJoined s name = (client : Client) × (finite.get s.members.clients name ≡ Some client)

-- a client of that name joined, and is stopped
abbrev pub HasStopped : System → ℕ → Type 0
HasStopped s name = is_stopped (phase_at s name) ≡ true

-- rows came after those that were there
abbrev pub Grows : List Row → List Row → Type 0
Grows old new = (added : List Row) × (new ≡ old ++ added)

-- the client that a message is for, if it is for one
abbrev pub receiver : Option Message → Option ℕ
receiver (Some (ToClient name reply)) = Some name
receiver (Some (ToReplica number request)) = None
receiver None = None

-- the client that a step names or delivers to, if it does
abbrev pub client_in : System → Step → Option ℕ
client_in s (step.Join name) = Some name
client_in s (step.Invoke name key action) = Some name
client_in s (step.Send name replica) = Some name
client_in s (step.Deliver flight) = receiver (message_of s.pool.flights flight)
client_in s (step.Respond name) = Some name
client_in s (step.StopClient name) = Some name
client_in s other = None

-- the client began the call
pub record Began (rows : List Row) (name : ℕ) (op : OpId) : Type 0 where
  pub place : ℕ
  pub key : List ℕ
  pub action : Action
  pub is : At rows place (Invoke op name key action)

-- the row is one of the client's calls
abbrev pub IsRowOf : List Row → ℕ → Row → Type 0
IsRowOf rows name (Invoke op client key action) = client ≡ name
IsRowOf rows name (Note op tag) = Began rows name op
IsRowOf rows name (Respond op returned) = Began rows name op

-- the rows stayed, or a row of that client came after them
pub data AddsRowOf (found : Option ℕ) (old new : List Row) : Type 0 where
  NoRow : new ≡ old → AddsRowOf found old new
  OneRow : (name : ℕ) (row : Row) → found ≡ Some name → IsRowOf old name row → new ≡ old ++ row ∷ []
      → AddsRowOf found old new
