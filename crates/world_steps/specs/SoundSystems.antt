-- What holds of every system that steps reach.
use Rattle.std.specs.Prelude.{ℕ, ◌≡◌, ◌<◌, ◌≤◌, false, List, Option, Some, None, length, slice_get}
use Rattle.std.specs.FinMap as finite
use Rattle.tag.specs.Limits.{call_limit}
use Rattle.quorum.specs.Quorums.{Quorums, is_ask_quorum, is_put_quorum}
use Rattle.replica.specs.Pairs.{no_pair, pair_of}
use Rattle.replica.specs.declared.pairs.Pair.{Pair}
use Rattle.replica.specs.declared.replies.Reply.{Reply}
use Rattle.replica.specs.declared.requests.Request.{Request}
use Rattle.client_phases.specs.declared.clients.Client.{Client}
use Rattle.client_phases.specs.declared.rules.Rules.{Rules}
use Rattle.client_phases.specs.declared.states.State.{State}
use Rattle.client_phases.specs.declared.states.State.TheVariants.{Ask, Put}
use Rattle.network.specs.Flights.{Flights}
use Rattle.network.specs.declared.messages.Message.{Message}
use Rattle.network.specs.declared.messages.Message.TheVariants.{ToReplica, ToClient}
use Rattle.recorder.specs.Histories.{call_count}
use Rattle.world_steps.specs.Clients.{Clients, Members}
use Rattle.world_steps.specs.Configs.{Config}
use Rattle.world_steps.specs.Sound.{Sound}
use Rattle.world_steps.specs.declared.nodes.Node.{Node}
use Rattle.world_steps.specs.declared.system.System.{System}

-- a flight with a copy carries the message
pub record Flies (flights : Flights) (message : Message) : Type 0 where
  pub number : ℕ
  pub copies : ℕ
  pub is : finite.get flights number ≡ Some (record { message = message; copies = copies })

-- the client of that name is in that state
pub record IsIn (clients : Clients) (name : ℕ) (state : State) : Type 0 where
  pub rules : Rules
  pub is : finite.get clients name ≡ Some (record { rules = rules; state = state })

-- the pair that a replica holds for a key, if the replica is there
abbrev pub pair_in : Option Node → List ℕ → Pair
pair_in None key = no_pair
pair_in (Some node) key = pair_of node.replica.pairs key

-- the pair that the replica of that number holds for a key
abbrev pub held_in : List Node → ℕ → List ℕ → Pair
held_in nodes number key = pair_in (slice_get nodes number) key

-- each client keeps the configuration's rules under its own name
abbrev pub rules_of : Config → ℕ → Rules
rules_of config name = record { name = name; quorums = config.quorums; reads = config.reads }

-- what a client that asks, or puts, has counted is no ask quorum, or put quorum, yet
abbrev pub IsWaiting : Quorums → State → Type 0
IsWaiting quorums (Ask asking) = is_ask_quorum quorums asking.counted ≡ false
IsWaiting quorums (Put chosen counted) = is_put_quorum quorums counted ≡ false
IsWaiting quorums state = Unit {0}

-- the names that joined are those of the clients, each once
pub record AreNamed (members : Members) : Type 0 where
  pub joined : (place name : ℕ) → slice_get members.joined place ≡ Some name → (client : Client)
      × (finite.get members.clients name ≡ Some client)
  pub listed : (name : ℕ) (client : Client) → finite.get members.clients name ≡ Some client
      → (place : ℕ) × (slice_get members.joined place ≡ Some name)
  pub once : (p q name : ℕ) → slice_get members.joined p ≡ Some name → slice_get members.joined q
      ≡ Some name → p ≡ q

-- there are as many replicas, and may be as many flights and calls, as the configuration says
pub record IsConfigured (s : System) : Type 0 where
  pub replicas : length s.nodes ≡ length s.config.quorums.votes
  pub flights : s.pool.limit ≡ s.config.flights
  pub calls : s.history.limit ≡ s.config.calls

-- rows, pairs, messages and states are sound; clients keep the configuration's rules and wait for
-- quorums, replicas keep their numbers; messages are for replicas that are there and clients that
-- joined; the record has at most as many calls as it may have; the names that joined are the
-- clients'; and counts and limits are the configuration's
pub record IsSound (s : System) : Type 0 where
  pub sound : Sound s.config.quorums s.history.rows (held_in s.nodes) (Flies s.pool.flights)
      (IsIn s.members.clients)
  pub ruled : (name : ℕ) (client : Client) → finite.get s.members.clients name ≡ Some client
      → client.rules ≡ rules_of s.config name
  pub waiting : (name : ℕ) (client : Client) → finite.get s.members.clients name ≡ Some client
      → IsWaiting s.config.quorums client.state
  pub numbered : (number : ℕ) (node : Node) → slice_get s.nodes number ≡ Some node
      → node.replica.number ≡ number
  pub to_replicas : (number : ℕ) (request : Request)
      → Flies s.pool.flights (ToReplica number request) → number < length s.nodes
  pub to_clients : (name : ℕ) (reply : Reply) → Flies s.pool.flights (ToClient name reply)
      → (client : Client) × (finite.get s.members.clients name ≡ Some client)
  pub calls : call_count s.history.rows ≤ s.history.limit
  pub limit : s.history.limit ≤ call_limit
  pub named : AreNamed s.members
  pub configured : IsConfigured s
