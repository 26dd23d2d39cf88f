-- How many clients run, step by step.
use Rattle.std.proofs.Common.{◌≡◌, ◌≢◌, ℕ, zero, suc, ◌+◌, ◌≤◌, Bool, true, false, cond, List, [], ◌∷◌, ◌++◌, Option, None, Some, refl, sym, ◌∙◌, ap, subst, inl, inr, arith, slice_get}
use Rattle.std.specs.FinMap as finite
use Rattle.std.proofs.lemmas.Bool.{not-false}
use Rattle.tag.specs.declared.actions.Action.{Action}
use Rattle.replica.specs.declared.replies.Reply.{Reply}
use Rattle.replica.specs.declared.requests.Request.{Request}
use Rattle.client_phases.specs.Clients.{client_after, client_of, client_after_invoke, phase_of, client_after_respond, client_after_stop, request_of}
use Rattle.client_phases.specs.declared.clients.Client.{Client}
use Rattle.client_phases.specs.declared.rules.Rules.{Rules}
use Rattle.client_phases.specs.declared.states.State.{State}
use Rattle.client_phases.specs.declared.states.State.TheVariants.{Idle, Ask, Put, Ready, Stopped}
use Rattle.network.specs.Flights.{message_of}
use Rattle.network.specs.declared.messages.Message.{Message}
use Rattle.network.specs.declared.messages.Message.TheVariants.{ToReplica, ToClient}
use Rattle.recorder.specs.Histories.{caller_of}
use Rattle.world_steps.specs.Clients.{Clients, is_running, running_among, running_count}
use Rattle.world_steps.specs.Moves.{IsClient}
use Rattle.world_steps.specs.Refusals.{arrival_refusals, first_of, is_stopped, no_such_client, phase_at, refusal_of}
use Rattle.world_steps.specs.Runs.{join_count, stop_count}
use Rattle.world_steps.specs.SoundSystems.{IsSound}
use Rattle.world_steps.specs.Systems.{deliver, handle, invoke, system_after, next_call, op_of, respond, send, send_to, set_up, stop, take}
use Rattle.world_steps.specs.declared.nodes.Node.{Node}
use Rattle.world_steps.specs.declared.step.Step.{Step}
use Rattle.world_steps.specs.declared.step.Step.TheVariants as step
use Rattle.world_steps.specs.declared.system.System.{System}
use Rattle.network.proofs.Lookups.{get_cases}
use Rattle.tag.proofs.Options.{none_from_is_none}
use Rattle.world_steps.proofs.Named.{not_joined}
use Rattle.world_steps.proofs.Passed.{passed, client_there, phase_is}

-- one more, or none
abbrev one : Bool → ℕ
one b = cond b 1 0

at_most_one : (b : Bool) → one b ≤ 1
at_most_one true = omega arith
at_most_one false = omega arith

module _ (clients : Clients) (name : ℕ) (new : Client) where
  abbrev others : Clients
  others = finite.insert clients name new

  -- another client runs as before
  same : (d : ℕ) → d ≢ name → one (is_running (finite.get others d)) ≡ one (is_running (finite.get clients d))
  same d other =
      elim (get_cases clients name new d) [
        | inl here ↦ absurd (other here.0)
        | inr there ↦ ap (λ found. one (is_running found)) there.1
      ]

  -- where the client ran, none runs more
  one_less : (d : ℕ) → is_running (finite.get clients name) ≡ true → one (is_running (finite.get others d)) ≤ one (is_running (finite.get clients d))
  one_less d ran =
      elim (get_cases clients name new d) [
        | inl here ↦
            let least = at_most_one (is_running (finite.get others d)) in
            let was : one (is_running (finite.get clients d)) ≡ 1 = ap (λ n. one (is_running (finite.get clients n))) here.0 ∙ ap one ran in
            omega (arith, least, was)
        | inr there ↦ let is : one (is_running (finite.get others d)) ≡ one (is_running (finite.get clients d)) = ap (λ found. one (is_running found)) there.1 in omega (arith, is)
      ]

  pub none_more : (names : List ℕ) → is_running (finite.get clients name) ≡ true → running_among others names ≤ running_among clients names
  none_more [] ran = omega arith
  none_more (d ∷ names) ran = let first = one_less d ran in let rest = none_more names ran in omega (arith, first, rest)

  -- where the client stops, one runs less
  pub one_stops : (names : List ℕ) (place : ℕ) → slice_get names place ≡ Some name → is_running (finite.get clients name) ≡ true → is_running (Some new) ≡ false
      → running_among others names + 1 ≤ running_among clients names
  one_stops [] place at ran stops = absurd cc
  one_stops (d ∷ names) zero at ran stops =
      let is : d ≡ name = cc in
      let now : one (is_running (finite.get others d)) ≡ 0 =
      elim (get_cases clients name new d) [
        | inl here ↦ ap (λ found. one (is_running found)) here.1 ∙ ap one stops
        | inr there ↦ absurd (there.0 is)
      ] in
      let was : one (is_running (finite.get clients d)) ≡ 1 = ap (λ n. one (is_running (finite.get clients n))) is ∙ ap one ran in
      let rest = none_more names ran in
      omega (arith, now, was, rest)
  one_stops (d ∷ names) (suc place) at ran stops = let first = one_less d ran in let rest = one_stops names place at ran stops in omega (arith, first, rest)

  -- where a name that isn't among them comes to them, at most one runs more
  pub one_joins : (names : List ℕ) → ((place : ℕ) → slice_get names place ≡ Some name → ⊥) → running_among others (names ++ name ∷ []) ≤ running_among clients names + 1
  one_joins [] away = let least = at_most_one (is_running (finite.get others name)) in omega (arith, least)
  one_joins (d ∷ names) away =
      let first = same d (λ is. away 0 (ap Some is)) in
      let rest = one_joins names (λ place at. away (suc place) at) in
      omega (arith, first, rest)

-- ---- a client that isn't stopped runs
running_in : (rules : Rules) (state : State) → is_stopped (Some (phase_of (record { rules = rules; state = state }))) ≡ false → is_running (Some (record { rules = rules; state = state })) ≡ true
running_in rules Idle e = refl
running_in rules (Ask asking) e = refl
running_in rules (Put chosen counted) e = refl
running_in rules (Ready chosen) e = refl
running_in rules Stopped e = cc

module _ (s : System) where
  runs : (name : ℕ) (client : Client) → IsClient s name client → is_stopped (phase_at s name) ≡ false → is_running (finite.get s.members.clients name) ≡ true
  runs name client is e = ap is_running is ∙ running_in client.rules client.state (sym (ap is_stopped (phase_is s name client is)) ∙ e)

  abbrev NoneMore : System → Type 0
  NoneMore t = running_count t.members + 0 ≤ running_count s.members + 0

  still : NoneMore s
  still = omega arith

  became : (name : ℕ) (new : Client) → is_running (finite.get s.members.clients name) ≡ true
      → running_among (finite.insert s.members.clients name new) s.members.joined + 0 ≤ running_count s.members + 0
  became name new ran = let rest = none_more s.members.clients name new s.members.joined ran in omega (arith, rest)

  -- ---- steps that leave the clients as they are
  sent : (replica : ℕ) (found : Option Client) → NoneMore (send s replica found)
  sent replica None = still
  sent replica (Some client) = by_request (request_of client)
    where
      by_request : (request : Option Request) → NoneMore (send_to s replica request)
      by_request (Some request) = still
      by_request None = still

  handled : (number : ℕ) (request : Request) (found : Option Node) (caller : Option ℕ) → NoneMore (handle s number request found caller)
  handled number request (Some node) (Some client) = still
  handled number request (Some node) None = still
  handled number request None caller = still

  set : (number : ℕ) (is_up : Bool) (found : Option Node) → NoneMore (set_up s number is_up found)
  set number is_up (Some node) = still
  set number is_up None = still

  -- ---- a client takes a reply
  heard : (name : ℕ) (reply : Reply) (found : Option Client) → finite.get s.members.clients name ≡ found → is_stopped (phase_at s name) ≡ false → NoneMore (take s name reply found)
  heard name reply None is goes = still
  heard name reply (Some client) is goes = became name (client_after client reply) (runs name client is goes)

  delivered : (flight : ℕ) (found : Option Message) → message_of s.pool.flights flight ≡ found → refusal_of s (step.Deliver flight) ≡ None → NoneMore (deliver s flight found)
  delivered flight None is none = still
  delivered flight (Some (ToReplica number request)) is none = handled number request (slice_get s.nodes number) (caller_of s.history.rows (op_of request))
  delivered flight (Some (ToClient name reply)) is none =
      heard name reply (finite.get s.members.clients name) refl (passed _ _ _ (subst (λ found. first_of (arrival_refusals s found) ≡ None) is none)).0

  -- ---- a client invokes a call
  asked : (name : ℕ) (key : List ℕ) (action : Action) → refusal_of s (step.Invoke name key action) ≡ None → NoneMore (system_after s (step.Invoke name key action))
  asked name key action none =
      let first = passed _ _ _ none in
      let second = passed _ _ _ first.1 in
      let (client, is) = client_there s name first.0 in
      subst (λ found. NoneMore (invoke s name key action found)) (sym is) (became name (client_after_invoke client (next_call s) key action) (runs name client is second.0))

  -- ---- a client answers
  responded_by : (name : ℕ) (rules : Rules) (state : State) → is_running (finite.get s.members.clients name) ≡ true → NoneMore (respond s name (Some (record { rules = rules; state = state })))
  responded_by name rules Idle ran = still
  responded_by name rules (Ask asking) ran = still
  responded_by name rules (Put chosen counted) ran = still
  responded_by name rules (Ready chosen) ran = became name (client_after_respond (record { rules = rules; state = Ready chosen })) ran
  responded_by name rules Stopped ran = still

  answered : (name : ℕ) → refusal_of s (step.Respond name) ≡ None → NoneMore (system_after s (step.Respond name))
  answered name none =
      let first = passed _ _ _ none in
      let second = passed _ _ _ first.1 in
      let (client, is) = client_there s name first.0 in
      subst (λ found. NoneMore (respond s name found)) (sym is) (responded_by name client.rules client.state (runs name client is second.0))

  -- ---- a client stops
  stops : (name : ℕ) → IsSound s → refusal_of s (step.StopClient name) ≡ None → running_count (system_after s (step.StopClient name)).members + 1 ≤ running_count s.members + 0
  stops name sound none =
      let first = passed _ _ _ none in
      let second = passed _ _ _ first.1 in
      let (client, is) = client_there s name first.0 in
      let (place, at) = sound.named.listed name client is in
      let less : running_among (finite.insert s.members.clients name (client_after_stop client)) s.members.joined + 1 ≤ running_count s.members =
      one_stops s.members.clients name (client_after_stop client) s.members.joined place at (runs name client is second.0) refl in
      subst (λ found. running_count (stop s name found).members + 1 ≤ running_count s.members + 0) (sym is) (omega (arith, less))

  -- ---- a client joins
  joins : (name : ℕ) → IsSound s → refusal_of s (step.Join name) ≡ None → running_count (system_after s (step.Join name)).members + 0 ≤ running_count s.members + 1
  joins name sound none =
      let away = none_from_is_none (finite.get s.members.clients name) (not-false (no_such_client s name) (passed _ _ _ none).0) in
      let more = one_joins s.members.clients name (client_of name s.config.quorums s.config.reads) s.members.joined (not_joined s.members sound.named name away) in
      omega (arith, more)

-- ---- every step that isn't refused
pub running_moved : (s : System) (step : Step) → IsSound s → refusal_of s step ≡ None → running_count (system_after s step).members + stop_count step ≤ running_count s.members + join_count step
running_moved s (step.Join name) sound none = joins s name sound none
running_moved s (step.Invoke name key action) sound none = asked s name key action none
running_moved s (step.Send name replica) sound none = sent s replica (finite.get s.members.clients name)
running_moved s (step.Deliver flight) sound none = delivered s flight (message_of s.pool.flights flight) refl none
running_moved s (step.Lose flight) sound none = still s
running_moved s (step.Repeat flight) sound none = still s
running_moved s (step.Respond name) sound none = answered s name none
running_moved s (step.StopClient name) sound none = stops s name sound none
running_moved s (step.StopReplica number) sound none = set s number false (slice_get s.nodes number)
running_moved s (step.StartReplica number) sound none = set s number true (slice_get s.nodes number)
