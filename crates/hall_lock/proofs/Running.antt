-- Steps that carry a client's call on leave the client running.
use Rattle.std.proofs.Common.{◌≡◌, ℕ, Bool, true, false, cond, List, [], ◌∷◌, option_map, Option, None, Some, refl, sym, ap, ◌∙◌, subst}
use Rattle.std.specs.FinMap as finite
use Rattle.std.specs.FinSet as sets
use Rattle.std.proofs.lemmas.Option.{same_Some}
use Rattle.tag.proofs.Options.{none_some}
use Rattle.tag.specs.declared.actions.Action.{Action}
use Rattle.tag.specs.declared.actions.Returned.{Returned}
use Rattle.quorum.specs.Quorums.{is_ask_quorum, is_put_quorum}
use Rattle.quorum.specs.Sets.{Replicas}
use Rattle.replica.specs.declared.replies.Reply.{Reply}
use Rattle.replica.specs.declared.replies.Reply.TheVariants.{Held, Kept}
use Rattle.client_phases.specs.Asking.{Asking, asking_with, counts, is_agreed}
use Rattle.client_phases.specs.Calls.{Chosen, pair_to_put}
use Rattle.client_phases.specs.Clients.{answer_of, client_after, client_after_invoke, client_after_respond, client_of, phase_of}
use Rattle.client_phases.specs.States.{asking_outcome, putting_outcome}
use Rattle.client_phases.specs.declared.clients.Client.{Client}
use Rattle.client_phases.specs.declared.outcomes.Taken.{Taken}
use Rattle.client_phases.specs.declared.outcomes.Taken.TheVariants.{Agreed, Counted, Noted, Stale}
use Rattle.client_phases.specs.declared.outcomes.Taken.TheVariants as outcome
use Rattle.client_phases.specs.declared.rules.Rules.{Rules}
use Rattle.client_phases.specs.declared.states.State.{State}
use Rattle.client_phases.specs.declared.states.State.TheVariants.{Idle, Ask, Put, Ready, Stopped}
use Rattle.network.specs.Flights.{message_of}
use Rattle.network.specs.declared.messages.Message.{Message}
use Rattle.network.specs.declared.messages.Message.TheVariants.{ToReplica, ToClient}
use Rattle.world_steps.specs.Lasting.{HasJoined, receiver}
use Rattle.world_steps.specs.Refusals.{arrival_refusals, first_of, is_stopped, phase_at, refusal_of}
use Rattle.world_steps.specs.Systems.{deliver, invoke, next_call, respond, take}
use Rattle.world_steps.specs.declared.refusal.Refusal.TheVariants as refusal
use Rattle.world_steps.specs.declared.step.Step.TheVariants as step
use Rattle.world_steps.specs.declared.system.System.{System}
use Rattle.hall_journal.specs.Halls.{Hall, with_step}
use Rattle.hall_lock.proofs.Joining.{there_now}

-- ---- a client that became another

set_to : (s : System) (name : ℕ) (client : Client)
    → is_stopped (option_map phase_of (finite.get (finite.insert s.members.clients name client) name)) ≡ is_stopped (Some (phase_of client))
set_to s name client = ap (λ o. is_stopped (option_map phase_of o)) (there_now s.members.clients name client)

-- a client that has just joined runs
pub joined_runs : (old new : Hall) (name : ℕ) → new ≡ with_step old (step.Join name) → is_stopped (phase_at new.world name) ≡ false
joined_runs old new name is = ap (λ (h : Hall). is_stopped (phase_at h.world name)) is ∙ set_to old.world name
    (client_of name old.world.config.quorums old.world.config.reads)

-- a client that began a call runs
pub invoked_runs : (old new : Hall) (name : ℕ) (key : List ℕ) (action : Action) → HasJoined old.world name
    → new ≡ with_step old (step.Invoke name key action) → is_stopped (phase_at new.world name) ≡ false
invoked_runs old new name key action joined is = ap (λ (h : Hall). is_stopped (phase_at h.world name)) is ∙ by_client old.world
    (finite.get old.world.members.clients name) joined.0 joined.1
  where
    by_client : (s : System) (found : Option Client) (client : Client) → found ≡ Some client
        → is_stopped (phase_at (invoke s name key action found) name) ≡ false
    by_client s None client there = none_some there
    by_client s (Some other) client there = set_to s name (client_after_invoke other (next_call s) key action)

-- a client that answered runs
pub responded_runs : (old new : Hall) (name : ℕ) (client : Client) (returned : Returned)
    → finite.get old.world.members.clients name ≡ Some client → Some returned ≡ answer_of client → new ≡ with_step old (step.Respond name)
    → is_stopped (phase_at new.world name) ≡ false
responded_runs old new name client returned there answer is =
    ap (λ (h : Hall). is_stopped (phase_at h.world name)) is ∙ ap (λ o. is_stopped (phase_at (respond old.world name o) name)) there
    ∙ by_state old.world client.rules client.state answer
  where
    by_state : (s : System) (rules : Rules) (state : State) → Some returned ≡ answer_of (record { rules = rules; state = state })
        → is_stopped (phase_at (respond s name (Some (record { rules = rules; state = state }))) name) ≡ false
    by_state s rules Idle answer = none_some (sym answer)
    by_state s rules (Ask asking) answer = none_some (sym answer)
    by_state s rules (Put chosen counted) answer = none_some (sym answer)
    by_state s rules (Ready chosen) answer = set_to s name (client_after_respond (record { rules = rules; state = Ready chosen }))
    by_state s rules Stopped answer = none_some (sym answer)

-- ---- a client that took a reply

-- the client that a reply leaves in this state runs
abbrev Runs : Rules → State × Taken → Type 0
Runs rules outcome = is_stopped (Some (phase_of (record { rules = rules; state = outcome.0 }))) ≡ false

either_runs : (rules : Rules) (b : Bool) (x y : State × Taken) → Runs rules x → Runs rules y → Runs rules (cond b x y)
either_runs rules true x y one other = one
either_runs rules false x y one other = other

asked_runs : (rules : Rules) (asking : Asking) → Runs rules (asking_outcome rules asking)
asked_runs rules asking =
    let pair = pair_to_put rules.name asking.call.action asking.best in
    let agreed : State × Taken = (Ready (record { call = asking.call; pair = asking.best }), Agreed asking.best.tag) in
    let noted : State × Taken = (Put (record { call = asking.call; pair = pair }) sets.empty, Noted pair.tag) in
    either_runs rules (is_ask_quorum rules.quorums asking.counted) (cond (is_agreed rules asking) agreed noted) (Ask asking, Counted)
    (either_runs rules (is_agreed rules asking) agreed noted refl refl) refl

put_runs : (rules : Rules) (chosen : Chosen) (counted : Replicas) → Runs rules (putting_outcome rules chosen counted)
put_runs rules chosen counted = either_runs rules (is_put_quorum rules.quorums counted) (Ready chosen, outcome.Ready)
    (Put chosen counted, Counted) refl refl

heard_runs : (rules : Rules) (state : State) (reply : Reply)
    → is_stopped (Some (phase_of (record { rules = rules; state = state }))) ≡ false
    → is_stopped (Some (phase_of (client_after (record { rules = rules; state = state }) reply))) ≡ false
heard_runs rules (Ask asking) (Held op replica tag value) is =
    let more = asking_with asking replica (record { tag = tag; value = value }) in
    either_runs rules (counts rules asking.call asking.counted op replica) (asking_outcome rules more) (Ask asking, Stale)
    (asked_runs rules more) refl
heard_runs rules (Ask asking) (Kept op replica) is = refl
heard_runs rules (Put chosen counted) (Held op replica tag value) is = refl
heard_runs rules (Put chosen counted) (Kept op replica) is =
    let more = sets.insert counted replica in
    either_runs rules (counts rules chosen.call counted op replica) (putting_outcome rules chosen more) (Put chosen counted, Stale)
    (put_runs rules chosen more) refl
heard_runs rules Idle reply is = refl
heard_runs rules (Ready chosen) reply is = refl
heard_runs rules Stopped reply is = is

takes_runs : (s : System) (name : ℕ) (reply : Reply) (found : Option Client) → finite.get s.members.clients name ≡ found
    → is_stopped (phase_at s name) ≡ false → is_stopped (phase_at (take s name reply found) name) ≡ false
takes_runs s name reply None there is = is
takes_runs s name reply (Some client) there is =
    set_to s name (client_after client reply) ∙ heard_runs client.rules client.state reply
    (sym (ap (λ o. is_stopped (option_map phase_of o)) there) ∙ is)

-- no reply comes to a client that is stopped
unstopped : (stopped : Bool) → first_of ((refusal.ClientStopped, stopped) ∷ []) ≡ None → stopped ≡ false
unstopped true none = none_some (sym none)
unstopped false none = refl

arrived_runs : (s : System) (flight client : ℕ) (found : Option Message) → receiver found ≡ Some client
    → first_of (arrival_refusals s found) ≡ None → is_stopped (phase_at (deliver s flight found) client) ≡ false
arrived_runs s flight client None is none = none_some is
arrived_runs s flight client (Some (ToReplica number request)) is none = none_some is
arrived_runs s flight client (Some (ToClient name reply)) is none =
    subst (λ n. is_stopped (phase_at (deliver s flight (Some (ToClient name reply))) n) ≡ false) (same_Some name client is)
    (takes_runs s name reply (finite.get s.members.clients name) refl (unstopped (is_stopped (phase_at s name)) none))

pub delivered_runs : (old new : Hall) (flight client : ℕ) → receiver (message_of old.world.pool.flights flight) ≡ Some client
    → refusal_of old.world (step.Deliver flight) ≡ None → new ≡ with_step old (step.Deliver flight)
    → is_stopped (phase_at new.world client) ≡ false
delivered_runs old new flight client names none is = ap (λ (h : Hall). is_stopped (phase_at h.world client)) is ∙ arrived_runs old.world
    flight client (message_of old.world.pool.flights flight) names none
