-- A client that stopped stays stopped.
use Rattle.std.proofs.Common.{◌≡◌, ℕ, Bool, true, false, cond, is_none, is_some, not, option_map, List, [], ◌∷◌, Option, None, Some, refl, sym, ◌∙◌, ap, subst, inl, inr, slice_get}
use Rattle.std.specs.FinMap as finite
use Rattle.tag.specs.declared.actions.Action.{Action}
use Rattle.replica.specs.declared.replies.Reply.{Reply}
use Rattle.replica.specs.declared.requests.Request.{Request}
use Rattle.client_phases.specs.Clients.{client_after, client_after_invoke, client_after_respond, client_after_stop, client_of, phase_of, request_of}
use Rattle.client_phases.specs.declared.clients.Client.{Client}
use Rattle.client_phases.specs.declared.rules.Rules.{Rules}
use Rattle.client_phases.specs.declared.states.State.{State}
use Rattle.client_phases.specs.declared.states.State.TheVariants.{Idle, Ask, Put, Ready, Stopped}
use Rattle.network.specs.Flights.{message_of}
use Rattle.network.specs.declared.messages.Message.{Message}
use Rattle.network.specs.declared.messages.Message.TheVariants.{ToReplica, ToClient}
use Rattle.recorder.specs.Histories.{caller_of}
use Rattle.world_steps.specs.Clients.{Clients}
use Rattle.world_steps.specs.Lasting.{HasStopped}
use Rattle.world_steps.specs.Refusals.{Table, calls_full, first_of, is_idle, is_stopped, no_such_client, phase_at, refusal_of}
use Rattle.world_steps.specs.Runs.{after_from, next}
use Rattle.world_steps.specs.Systems.{deliver, handle, invoke, next_call, op_of, respond, send, send_to, set_up, stop, system_after, take}
use Rattle.world_steps.specs.declared.nodes.Node.{Node}
use Rattle.world_steps.specs.declared.refusal.Refusal.{Refusal}
use Rattle.world_steps.specs.declared.refusal.Refusal.TheVariants as refusal
use Rattle.world_steps.specs.declared.step.Step.{Step}
use Rattle.world_steps.specs.declared.step.Step.TheVariants as step
use Rattle.world_steps.specs.declared.system.System.{System}
use Rattle.network.proofs.Lookups.{get_cases}

-- ---- what refusals leave out

-- a client that asks for a further call isn't stopped
runs : (missing stopped : Bool) (rest : Table) → first_of ((refusal.NoSuchClient, missing) ∷ (refusal.ClientStopped, stopped) ∷ rest) ≡ None → stopped ≡ true → {A : Type 0} → A
runs true stopped rest none is = absurd (cc)
runs false true rest none is = absurd (cc)
runs false false rest none is = absurd (cc)

-- a client that joins wasn't there
fresh : (found : Option Client) → first_of ((refusal.ClientTaken, not (is_none found)) ∷ []) ≡ None → is_stopped (option_map phase_of found) ≡ true → {A : Type 0} → A
fresh None none is = absurd (cc)
fresh (Some client) none is = absurd (cc)

-- ---- a client that became another

abbrev IsStoppedIn : Clients → ℕ → Type 0
IsStoppedIn clients name = is_stopped (option_map phase_of (finite.get clients name)) ≡ true

still_in : (clients : Clients) (name : ℕ) (new : Client) (d : ℕ) → (IsStoppedIn clients name → is_stopped (Some (phase_of new)) ≡ true) → IsStoppedIn clients d → IsStoppedIn (finite.insert clients name new) d
still_in clients name new d keeps is =
    elim (get_cases clients name new d) [
      | inl here ↦ ap (λ o. is_stopped (option_map phase_of o)) here.1 ∙ keeps (subst (IsStoppedIn clients) here.0 is)
      | inr other ↦ ap (λ o. is_stopped (option_map phase_of o)) other.1 ∙ is
    ]

-- a stopped client takes no reply
deaf : (rules : Rules) (state : State) (reply : Reply) → is_stopped (Some (phase_of (record { rules = rules; state = state }))) ≡ true → is_stopped (Some (phase_of (client_after (record { rules = rules; state = state }) reply))) ≡ true
deaf rules Idle reply is = absurd (cc)
deaf rules (Ask asking) reply is = absurd (cc)
deaf rules (Put chosen counted) reply is = absurd (cc)
deaf rules (Ready chosen) reply is = absurd (cc)
deaf rules Stopped reply is = refl

-- ---- each step

module _ (s : System) (d : ℕ) (is : HasStopped s d) where
  found_stopped : (name : ℕ) (client : Client) → finite.get s.members.clients name ≡ Some client → HasStopped s name → is_stopped (Some (phase_of client)) ≡ true
  found_stopped name client there stopped = sym (ap (λ o. is_stopped (option_map phase_of o)) there) ∙ stopped

  asked : (name : ℕ) (key : List ℕ) (action : Action) (found : Option Client) → (HasStopped s name → ⊥) → HasStopped (invoke s name key action found) d
  asked name key action None free = is
  asked name key action (Some client) free = still_in s.members.clients name (client_after_invoke client (next_call s) key action) d (λ stopped. absurd (free stopped)) is

  sent : (replica : ℕ) (found : Option Client) → HasStopped (send s replica found) d
  sent replica None = is
  sent replica (Some client) = by_request (request_of client)
    where
      by_request : (request : Option Request) → HasStopped (send_to s replica request) d
      by_request (Some request) = is
      by_request None = is

  answered : (name : ℕ) (found : Option Client) → finite.get s.members.clients name ≡ found → HasStopped (respond s name found) d
  answered name None there = is
  answered name (Some client) there = by_state client.rules client.state there
    where
      by_state : (rules : Rules) (state : State) → finite.get s.members.clients name ≡ Some (record { rules = rules; state = state }) → HasStopped (respond s name (Some (record { rules = rules; state = state }))) d
      by_state rules Idle here = is
      by_state rules (Ask asking) here = is
      by_state rules (Put chosen counted) here = is
      by_state rules (Ready chosen) here =
          let client : Client = record { rules = rules; state = Ready chosen } in
          still_in s.members.clients name (client_after_respond client) d (λ stopped. let no = found_stopped name client here stopped in absurd (cc)) is
      by_state rules Stopped here = is

  stops : (name : ℕ) (found : Option Client) → HasStopped (stop s name found) d
  stops name None = is
  stops name (Some client) = still_in s.members.clients name (client_after_stop client) d (λ _. refl) is

  heard : (name : ℕ) (reply : Reply) (found : Option Client) → finite.get s.members.clients name ≡ found → HasStopped (take s name reply found) d
  heard name reply None there = is
  heard name reply (Some client) there = still_in s.members.clients name (client_after client reply) d (λ stopped. deaf client.rules client.state reply (found_stopped name client there stopped)) is

  handled : (number : ℕ) (request : Request) (found : Option Node) (caller : Option ℕ) → HasStopped (handle s number request found caller) d
  handled number request None caller = is
  handled number request (Some node) None = is
  handled number request (Some node) (Some client) = is

  set : (number : ℕ) (is_up : Bool) (found : Option Node) → HasStopped (set_up s number is_up found) d
  set number is_up None = is
  set number is_up (Some node) = is

  delivered : (flight : ℕ) (found : Option Message) → HasStopped (deliver s flight found) d
  delivered flight None = is
  delivered flight (Some (ToReplica number request)) = handled number request (slice_get s.nodes number) (caller_of s.history.rows (op_of request))
  delivered flight (Some (ToClient name reply)) = heard name reply (finite.get s.members.clients name) refl

  moved : (step : Step) → refusal_of s step ≡ None → HasStopped (system_after s step) d
  moved (step.Join name) none = still_in s.members.clients name (client_of name s.config.quorums s.config.reads) d (λ stopped. fresh (finite.get s.members.clients name) none stopped) is
  moved (step.Invoke name key action) none = asked name key action (finite.get s.members.clients name) (λ stopped. runs (no_such_client s name) (is_stopped (phase_at s name)) ((refusal.ClientBusy, not (is_idle (phase_at s name))) ∷ (refusal.OpsFull, calls_full s) ∷ []) none stopped)
  moved (step.Send name replica) none = sent replica (finite.get s.members.clients name)
  moved (step.Deliver flight) none = delivered flight (message_of s.pool.flights flight)
  moved (step.Lose flight) none = is
  moved (step.Repeat flight) none = is
  moved (step.Respond name) none = answered name (finite.get s.members.clients name) refl
  moved (step.StopClient name) none = stops name (finite.get s.members.clients name)
  moved (step.StopReplica number) none = set number false (slice_get s.nodes number)
  moved (step.StartReplica number) none = set number true (slice_get s.nodes number)

  lasts_by : (step : Step) (found : Option Refusal) → refusal_of s step ≡ found → HasStopped (cond (is_some found) s (system_after s step)) d
  lasts_by step None none = moved step none
  lasts_by step (Some why) refused = is

  pub next_stopped : (step : Step) → HasStopped (next s step) d
  next_stopped step = lasts_by step (refusal_of s step) refl

pub still_stopped : (s : System) (steps : List Step) (name : ℕ) → HasStopped s name → HasStopped (after_from s steps) name
still_stopped s [] name is = is
still_stopped s (step ∷ steps) name is = still_stopped (next s step) steps name (next_stopped s name is step)
