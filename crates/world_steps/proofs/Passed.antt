-- What the tests of a step say that nothing refuses.
use Rattle.std.proofs.Common.{◌≡◌, ℕ, ◌<◌, Bool, true, false, not, cond, is_some, length}
use Rattle.std.proofs.Common.{leb-false, Option, None, Some, option_map, refl, sym, ◌∙◌, ap}
use Rattle.std.proofs.Common.{List, true≢false}
use Rattle.std.proofs.lemmas.Bool.{false≢true, not-false}
use Rattle.std.specs.FinMap as finite
use Rattle.tag.proofs.Options.{some_from_is_none}
use Rattle.tag.specs.declared.actions.Action.{Action}
use Rattle.replica.specs.declared.requests.Request.{Request}
use Rattle.client_phases.specs.Calls.{Chosen}
use Rattle.client_phases.specs.Clients.{phase_of, request_of}
use Rattle.client_phases.specs.declared.clients.Client.{Client}
use Rattle.client_phases.specs.declared.rules.Rules.{Rules}
use Rattle.client_phases.specs.declared.states.State.{State}
use Rattle.client_phases.specs.declared.states.State.TheVariants.{Idle, Ask, Put, Ready, Stopped}
use Rattle.recorder.specs.Histories.{call_count}
use Rattle.world_steps.specs.Moves.{IsClient}
use Rattle.world_steps.specs.Refusals.{phase_at, is_idle, is_ready, has_request, no_such_client, refusal_of}
use Rattle.world_steps.specs.Refusals.{no_such_replica, calls_full, flights_full}
use Rattle.world_steps.specs.declared.refusal.Refusal.{Refusal}
use Rattle.world_steps.specs.declared.step.Step.TheVariants as step
use Rattle.world_steps.specs.declared.system.System.{System}

-- the first test fails, and so do those after it
pub passed : (why : Refusal) (test : Bool) (rest : Option Refusal) → cond test (Some why) rest
    ≡ None → (test ≡ false) × (rest ≡ None)
passed why true rest e = absurd (true≢false (ap is_some e))
passed why false rest e = (refl, e)

-- ---- rooms and replicas
pub room_for_call : (s : System) → calls_full s ≡ false
    → call_count s.history.rows < s.history.limit
room_for_call s e = leb-false s.history.limit (call_count s.history.rows) e

pub room_for_flight : (s : System) → flights_full s ≡ false → s.pool.sent < s.pool.limit
room_for_flight s e = leb-false s.pool.limit s.pool.sent e

pub replica_there : (s : System) (number : ℕ) → no_such_replica s number ≡ false
    → number < length s.nodes
replica_there s number e = leb-false (length s.nodes) number e

-- ---- clients
pub client_there : (s : System) (name : ℕ) → no_such_client s name ≡ false → (client : Client)
    × IsClient s name client
client_there s name e = some_from_is_none (finite.get s.members.clients name) e

pub phase_is : (s : System) (name : ℕ) (client : Client) → IsClient s name client → phase_at s name
    ≡ Some (phase_of client)
phase_is s name client is = ap (option_map phase_of) is

idle_in : (rules : Rules) (state : State)
    → is_idle (Some (phase_of (record { rules = rules; state = state }))) ≡ true → state ≡ Idle
idle_in rules Idle e = refl
idle_in rules (Ask asking) e = absurd (false≢true e)
idle_in rules (Put chosen counted) e = absurd (false≢true e)
idle_in rules (Ready chosen) e = absurd (false≢true e)
idle_in rules Stopped e = absurd (false≢true e)

pub idle_there : (s : System) (name : ℕ) (client : Client) → IsClient s name client
    → not (is_idle (phase_at s name)) ≡ false → client.state ≡ Idle
idle_there s name client is e = idle_in client.rules client.state (sym (ap is_idle (phase_is s name
    client is)) ∙ not-false (is_idle (phase_at s name)) e)

ready_in : (rules : Rules) (state : State)
    → is_ready (Some (phase_of (record { rules = rules; state = state }))) ≡ true
    → (chosen : Chosen) × (state ≡ Ready chosen)
ready_in rules (Ready chosen) e = (chosen, refl)
ready_in rules Idle e = absurd (false≢true e)
ready_in rules (Ask asking) e = absurd (false≢true e)
ready_in rules (Put chosen counted) e = absurd (false≢true e)
ready_in rules Stopped e = absurd (false≢true e)

pub ready_there : (s : System) (name : ℕ) (client : Client) → IsClient s name client
    → not (is_ready (phase_at s name)) ≡ false → (chosen : Chosen) × (client.state ≡ Ready chosen)
ready_there s name client is e = ready_in client.rules client.state (sym (ap is_ready (phase_is s
    name client is)) ∙ not-false (is_ready (phase_at s name)) e)

request_in : (rules : Rules) (state : State)
    → has_request (Some (phase_of (record { rules = rules; state = state }))) ≡ true
    → (request : Request) × (request_of (record { rules = rules; state = state }) ≡ Some request)
request_in rules (Ask asking) e = (_, refl)
request_in rules (Put chosen counted) e = (_, refl)
request_in rules Idle e = absurd (false≢true e)
request_in rules (Ready chosen) e = absurd (false≢true e)
request_in rules Stopped e = absurd (false≢true e)

pub request_there : (s : System) (name : ℕ) (client : Client) → IsClient s name client
    → not (has_request (phase_at s name)) ≡ false → (request : Request)
    × (request_of client ≡ Some request)
request_there s name client is e = request_in client.rules client.state (sym (ap has_request
    (phase_is s name client is)) ∙ not-false (has_request (phase_at s name)) e)

-- ---- what a step of a client finds that nothing refuses
pub invoke_passed : (s : System) (name : ℕ) (key : List ℕ) (action : Action) → refusal_of s (step.Invoke name key action) ≡ None
    → (client : Client) × IsClient s name client × (client.state ≡ Idle) × (call_count s.history.rows < s.history.limit)
invoke_passed s name key action none =
    let first = passed _ _ _ none in
    let second = passed _ _ _ first.1 in
    let third = passed _ _ _ second.1 in
    let fourth = passed _ _ _ third.1 in
    let (client, is) = client_there s name first.0 in
    (client, is, idle_there s name client is third.0, room_for_call s fourth.0)

pub send_passed : (s : System) (name replica : ℕ) → refusal_of s (step.Send name replica) ≡ None
    → (client : Client) × (request : Request) × IsClient s name client × (request_of client ≡ Some request) × (s.pool.sent < s.pool.limit)
send_passed s name replica none =
    let first = passed _ _ _ none in
    let second = passed _ _ _ first.1 in
    let third = passed _ _ _ second.1 in
    let fourth = passed _ _ _ third.1 in
    let fifth = passed _ _ _ fourth.1 in
    let (client, is) = client_there s name second.0 in
    let (request, sends) = request_there s name client is fourth.0 in
    (client, request, is, sends, room_for_flight s fifth.0)

pub respond_passed : (s : System) (name : ℕ) → refusal_of s (step.Respond name) ≡ None
    → (client : Client) × (chosen : Chosen) × IsClient s name client × (client.state ≡ Ready chosen)
respond_passed s name none =
    let first = passed _ _ _ none in
    let second = passed _ _ _ first.1 in
    let third = passed _ _ _ second.1 in
    let (client, is) = client_there s name first.0 in
    let (chosen, ready) = ready_there s name client is third.0 in
    (client, chosen, is, ready)
