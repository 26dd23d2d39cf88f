-- What steps never take away: a name that joined stays joined, what a replica holds never falls, and rows stay where they are.
use Rattle.std.proofs.Common.{◌≡◌, ℕ, Bool, true, false, cond, is_some, List, [], ◌∷◌, ◌++◌, Option, None, Some, refl, sym, ◌∙◌, ap, subst, inl, inr, slice_get, slice_set}
use Rattle.std.specs.FinMap as finite
use Rattle.tag.specs.declared.actions.Action.{Action}
use Rattle.tag.specs.declared.numbers.OpId.{OpId}
use Rattle.replica.specs.Replicas.{replica_after}
use Rattle.replica.specs.declared.pairs.Pair.{Pair}
use Rattle.replica.specs.declared.replies.Reply.{Reply}
use Rattle.replica.specs.declared.requests.Request.{Request}
use Rattle.replica.specs.declared.requests.Request.TheVariants.{Query, Put}
use Rattle.client_phases.specs.Calls.{answer_from}
use Rattle.client_phases.specs.Clients.{client_after, client_of, client_after_invoke, client_after_respond, client_after_stop, reply_result, request_of}
use Rattle.client_phases.specs.declared.clients.Client.{Client}
use Rattle.client_phases.specs.declared.outcomes.Taken.{Taken}
use Rattle.client_phases.specs.declared.outcomes.Taken.TheVariants.{Stale, Counted, Noted, Agreed}
use Rattle.client_phases.specs.declared.outcomes.Taken.TheVariants as outcome
use Rattle.client_phases.specs.declared.rules.Rules.{Rules}
use Rattle.client_phases.specs.declared.states.State.{State}
use Rattle.client_phases.specs.declared.states.State.TheVariants.{Idle, Ask, Put as Putting, Ready, Stopped}
use Rattle.network.specs.Flights.{message_of}
use Rattle.network.specs.declared.messages.Message.{Message}
use Rattle.network.specs.declared.messages.Message.TheVariants.{ToReplica, ToClient}
use Rattle.recorder.specs.Answers.{with_row}
use Rattle.recorder.specs.Histories.{caller_of}
use Rattle.recorder.specs.declared.row.Row.{Row}
use Rattle.recorder.specs.declared.row.Row.TheVariants.{Invoke, Note, Respond}
use Rattle.world_steps.specs.Clients.{Clients}
use Rattle.world_steps.specs.Configs.{Config}
use Rattle.world_steps.specs.Lasting.{Grows, HasJoined}
use Rattle.world_steps.specs.Refusals.{refusal_of}
use Rattle.world_steps.specs.Runs.{after, after_from, next}
use Rattle.world_steps.specs.Sound.{IsNoGreater}
use Rattle.world_steps.specs.SoundSystems.{held_in}
use Rattle.world_steps.specs.Systems.{answered_op, deliver, handle, invoke, system_after, next_call, op_of, opening, respond, send, send_to, set_up, stop, take, with_note}
use Rattle.world_steps.specs.declared.nodes.Node.{Node}
use Rattle.world_steps.specs.declared.step.Step.{Step}
use Rattle.world_steps.specs.declared.step.Step.TheVariants as step
use Rattle.world_steps.specs.declared.system.System.{System}
use Rattle.world_steps.proofs.ReplicaSound.{adopted_at, held_same}
use Rattle.network.proofs.Lookups.{get_cases}
use Rattle.world_steps.proofs.SameRows.{adopted_rises}
use Rattle.world_steps.proofs.TagLaws.{at_most_itself, at_most_trans, equal_at_most}

-- nothing more, and one after the other
nothing : {X : Type 0} (xs : List X) → xs ≡ xs ++ []
nothing [] = refl
nothing (x ∷ xs) = ap (λ ys. x ∷ ys) (nothing xs)

grouped : {X : Type 0} (xs ys zs : List X) → (xs ++ ys) ++ zs ≡ xs ++ (ys ++ zs)
grouped [] ys zs = refl
grouped (x ∷ xs) ys zs = ap (λ l. x ∷ l) (grouped xs ys zs)

-- those that joined are still there, replicas hold no less, and rows came after those that were there
record Lasts (s t : System) : Type 0 where
  joined : (name : ℕ) → HasJoined s name → HasJoined t name
  held : (number : ℕ) (key : List ℕ) → IsNoGreater (held_in s.nodes number key).tag (held_in t.nodes number key).tag
  rows : Grows s.history.rows t.history.rows

there : (clients : Clients) (name : ℕ) (new : Client) (d : ℕ) → (client : Client) × (finite.get clients d ≡ Some client) → (client : Client) × (finite.get (finite.insert clients name new) d ≡ Some client)
there clients name new d (client, is) =
    elim (get_cases clients name new d) [
      | inl here ↦ (new, here.1)
      | inr other ↦ (client, other.1 ∙ is)
    ]

lasts_both : (s t u : System) → Lasts s t → Lasts t u → Lasts s u
lasts_both s t u a b = record {
  joined = λ name has. b.joined name (a.joined name has);
  held = λ number key. at_most_trans (held_in s.nodes number key).tag (held_in t.nodes number key).tag (held_in u.nodes number key).tag (a.held number key) (b.held number key);
  rows = (a.rows.0 ++ b.rows.0, b.rows.1 ∙ ap (λ l. l ++ b.rows.0) a.rows.1 ∙ grouped s.history.rows a.rows.0 b.rows.0);
}

module _ (s : System) where
  level : (number : ℕ) (key : List ℕ) → IsNoGreater (held_in s.nodes number key).tag (held_in s.nodes number key).tag
  level number key = at_most_itself (held_in s.nodes number key).tag

  same_rows : Grows s.history.rows s.history.rows
  same_rows = ([], nothing s.history.rows)

  a_row : (row : Row) → Grows s.history.rows (with_row s.history row).rows
  a_row row = (row ∷ [], refl)

  noted : (op : OpId) (outcome : Taken) → Grows s.history.rows (with_note s.history op outcome).rows
  noted op (Noted tag) = a_row (Note op tag)
  noted op (Agreed tag) = a_row (Note op tag)
  noted op Stale = same_rows
  noted op Counted = same_rows
  noted op outcome.Ready = same_rows

  still : Lasts s s
  still = record { joined = λ name has. has; held = level; rows = same_rows }

  -- ---- steps of clients
  asked : (name : ℕ) (key : List ℕ) (action : Action) (found : Option Client) → Lasts s (invoke s name key action found)
  asked name key action None = still
  asked name key action (Some client) = record { joined = there s.members.clients name (client_after_invoke client (next_call s) key action); held = level; rows = a_row (Invoke (next_call s) name key action) }

  sent : (replica : ℕ) (found : Option Client) → Lasts s (send s replica found)
  sent replica None = still
  sent replica (Some client) = by_request (request_of client)
    where
      by_request : (request : Option Request) → Lasts s (send_to s replica request)
      by_request (Some request) = record { joined = λ name has. has; held = level; rows = same_rows }
      by_request None = still

  answered : (name : ℕ) (found : Option Client) → Lasts s (respond s name found)
  answered name None = still
  answered name (Some client) = by_state client.rules client.state
    where
      by_state : (rules : Rules) (state : State) → Lasts s (respond s name (Some (record { rules = rules; state = state })))
      by_state rules Idle = still
      by_state rules (Ask asking) = still
      by_state rules (Putting chosen counted) = still
      by_state rules (Ready chosen) = record { joined = there s.members.clients name (client_after_respond (record { rules = rules; state = Ready chosen })); held = level; rows = a_row (Respond chosen.call.op (answer_from chosen)) }
      by_state rules Stopped = still

  stops : (name : ℕ) (found : Option Client) → Lasts s (stop s name found)
  stops name None = still
  stops name (Some client) = record { joined = there s.members.clients name (client_after_stop client); held = level; rows = same_rows }

  heard : (name : ℕ) (reply : Reply) (found : Option Client) → Lasts s (take s name reply found)
  heard name reply None = still
  heard name reply (Some client) = record { joined = there s.members.clients name (client_after client reply); held = level; rows = noted (answered_op reply) (reply_result client reply) }

  -- ---- steps of replicas
  same : (number : ℕ) (node new : Node) → slice_get s.nodes number ≡ Some node → new.replica.pairs ≡ node.replica.pairs
      → (r : ℕ) (key : List ℕ) → IsNoGreater (held_in s.nodes r key).tag (held_in (slice_set s.nodes number new) r key).tag
  same number node new is pairs r key = equal_at_most _ _ (ap (λ (p : Pair). p.tag) (held_same s.nodes number node new is pairs r key))

  handled : (number : ℕ) (request : Request) (found : Option Node) (caller : Option ℕ) → slice_get s.nodes number ≡ found → Lasts s (handle s number request found caller)
  handled number request None caller is = still
  handled number request (Some node) None is = still
  handled number (Query op key) (Some node) (Some client) is =
      record { joined = λ name has. has; held = same number node (record node { replica = replica_after node.replica (Query op key) }) is refl; rows = same_rows }
  handled number (Put op key tag value) (Some node) (Some client) is =
      let pair : Pair = record { tag = tag; value = value } in
      record { joined = λ name has. has; held = λ r k. adopted_rises (held_in s.nodes) number key pair r k _ (adopted_at s.nodes number node key pair is r k); rows = same_rows }

  set : (number : ℕ) (is_up : Bool) (found : Option Node) → slice_get s.nodes number ≡ found → Lasts s (set_up s number is_up found)
  set number is_up None is = still
  set number is_up (Some node) is = record { joined = λ name has. has; held = same number node (record node { is_up = is_up }) is refl; rows = same_rows }

  delivered : (flight : ℕ) (found : Option Message) → Lasts s (deliver s flight found)
  delivered flight None = still
  delivered flight (Some (ToReplica number request)) =
      let there = handled number request (slice_get s.nodes number) (caller_of s.history.rows (op_of request)) refl in
      record { joined = there.joined; held = there.held; rows = there.rows }
  delivered flight (Some (ToClient name reply)) = let there = heard name reply (finite.get s.members.clients name) in record { joined = there.joined; held = there.held; rows = there.rows }

lasts_moved : (s : System) (step : Step) → Lasts s (system_after s step)
lasts_moved s (step.Join name) = record { joined = there s.members.clients name (client_of name s.config.quorums s.config.reads); held = level s; rows = same_rows s }
lasts_moved s (step.Invoke name key action) = asked s name key action (finite.get s.members.clients name)
lasts_moved s (step.Send name replica) = sent s replica (finite.get s.members.clients name)
lasts_moved s (step.Deliver flight) = delivered s flight (message_of s.pool.flights flight)
lasts_moved s (step.Lose flight) = record { joined = λ name has. has; held = level s; rows = same_rows s }
lasts_moved s (step.Repeat flight) = record { joined = λ name has. has; held = level s; rows = same_rows s }
lasts_moved s (step.Respond name) = answered s name (finite.get s.members.clients name)
lasts_moved s (step.StopClient name) = stops s name (finite.get s.members.clients name)
lasts_moved s (step.StopReplica number) = set s number false (slice_get s.nodes number) refl
lasts_moved s (step.StartReplica number) = set s number true (slice_get s.nodes number) refl

lasts_by : (s : System) (step : Step) (b : Bool) → Lasts s (cond b s (system_after s step))
lasts_by s step true = still s
lasts_by s step false = lasts_moved s step

lasts_from : (s : System) (steps : List Step) → Lasts s (after_from s steps)
lasts_from s [] = still s
lasts_from s (step ∷ steps) = lasts_both s (next s step) (after_from (next s step) steps) (lasts_by s step (is_some (refusal_of s step))) (lasts_from (next s step) steps)

-- what a list and a further one leave
pub after_append : (s : System) (steps later : List Step) → after_from s (steps ++ later) ≡ after_from (after_from s steps) later
after_append s [] later = refl
after_append s (step ∷ steps) later = after_append (next s step) steps later

lasts_after : (config : Config) (steps later : List Step) → Lasts (after config steps) (after config (steps ++ later))
lasts_after config steps later = subst (Lasts (after config steps)) (sym (after_append (opening config) steps later)) (lasts_from (after config steps) later)

pub joined_after : (config : Config) (steps later : List Step) (name : ℕ) → HasJoined (after config steps) name → HasJoined (after config (steps ++ later)) name
joined_after config steps later = (lasts_after config steps later).joined

pub held_after : (config : Config) (steps later : List Step) (number : ℕ) (key : List ℕ)
    → IsNoGreater (held_in (after config steps).nodes number key).tag (held_in (after config (steps ++ later)).nodes number key).tag
held_after config steps later = (lasts_after config steps later).held

pub rows_after : (config : Config) (steps later : List Step) → Grows (after config steps).history.rows (after config (steps ++ later)).history.rows
rows_after config steps later = (lasts_after config steps later).rows
