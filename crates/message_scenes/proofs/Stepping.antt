-- Each step that is taken goes on with the copies that the arrows show, whichever step it is.
use Rattle.std.proofs.Common.{ℕ, ◌≡◌, ◌≢◌, ◌+◌, ◌-◌, ◌<◌, ◌==◌, Bool, true, false, cond, List, [], ◌∷◌, ◌++◌, Option, None, Some, option_map}
use Rattle.std.proofs.Common.{refl, sym, ap, ◌∙◌, subst, append-nil, arith}
use Rattle.std.specs.FinMap as finite
use Rattle.std.specs.List.{slice_get}
use Rattle.tag.proofs.Options.{some_from_is_none}
use Rattle.tag.specs.declared.actions.Action.{Action}
use Rattle.replica.specs.Replicas.{reply_of}
use Rattle.replica.specs.declared.replies.Reply.{Reply}
use Rattle.replica.specs.declared.requests.Request.{Request}
use Rattle.client_phases.specs.declared.clients.Client.{Client}
use Rattle.client_phases.specs.declared.states.State.{State}
use Rattle.client_phases.specs.declared.states.State.TheVariants.{Idle, Ask, Put, Ready, Stopped}
use Rattle.network.specs.declared.flights.Flight.{Flight}
use Rattle.network.specs.Flights.{Flights, message_of, one_less, with_copies}
use Rattle.network.specs.Pools.{Pool, with_one_less, with_sent}
use Rattle.network.specs.declared.messages.Message.{Message}
use Rattle.network.specs.declared.messages.Message.TheVariants.{ToReplica, ToClient}
use Rattle.network.proofs.Lookups.{get_other, get_same, none_of, removed_other}
use Rattle.recorder.specs.Histories.{caller_of}
use Rattle.world_steps.specs.Refusals.{arrival_refusals, first_of, refusal_of}
use Rattle.world_steps.specs.Systems.{deliver, effect_of, handle, invoke, op_of, respond, send, send_to, set_up, stop, system_after, take}
use Rattle.world_steps.specs.declared.nodes.Node.{Node}
use Rattle.world_steps.specs.declared.refusal.Refusal.TheVariants as refusal
use Rattle.world_steps.specs.declared.step.Step.{Step}
use Rattle.world_steps.specs.declared.step.Step.TheVariants as step
use Rattle.world_steps.specs.declared.system.System.{System}
use Rattle.world_steps.proofs.Passed.{passed, send_passed}
use Rattle.script_runs.specs.declared.origin.Origin.{Origin}
use Rattle.client_phases.specs.declared.outcomes.Taken.TheVariants as outcome
use Rattle.world_steps.specs.declared.effect.Effect.{Effect}
use Rattle.world_steps.specs.declared.effect.Effect.TheVariants as effect
use Rattle.message_scenes.specs.Arrows.{arrival, arrows_by, is_open, copy_arrow, end_flight, replier, reply_arrow, request_arrow}
use Rattle.message_scenes.specs.Tried.{TakenStep, Tried, took}
use Rattle.message_scenes.specs.declared.arrows.Arrow.{Arrow}
use Rattle.message_scenes.specs.Copies.{IsAfter}
use Rattle.message_scenes.specs.declared.arrows.ArrowEnd.{ArrowEnd}
use Rattle.message_scenes.specs.declared.arrows.ArrowEnd.TheVariants as ending
use Rattle.message_scenes.proofs.Agreeing.{some_under}
use Rattle.message_scenes.proofs.Copying.{Shown, answered_on, copied_on, ended_on, next_if_more, none_if_same, quiet_on, sent_on}
use Rattle.message_scenes.proofs.Underway.{found, under_flight, under_open}

-- ---- how a delivery ends a copy
arrival_so : (P : ArrowEnd → Type 0) (row : ℕ) → P (ending.Stale row) → P (ending.Arrives row) → (caused : Option Effect) → P (arrival row caused)
arrival_so P row stale fresh None = fresh
arrival_so P row stale fresh (Some (effect.Taken outcome.Stale)) = stale
arrival_so P row stale fresh (Some (effect.Taken outcome.Counted)) = fresh
arrival_so P row stale fresh (Some (effect.Taken (outcome.Noted tag))) = fresh
arrival_so P row stale fresh (Some (effect.Taken (outcome.Agreed tag))) = fresh
arrival_so P row stale fresh (Some (effect.Taken outcome.Ready)) = fresh
arrival_so P row stale fresh (Some effect.Joined) = fresh
arrival_so P row stale fresh (Some (effect.Invoked op)) = fresh
arrival_so P row stale fresh (Some (effect.Sent flight)) = fresh
arrival_so P row stale fresh (Some (effect.Answered flight)) = fresh
arrival_so P row stale fresh (Some effect.Lost) = fresh
arrival_so P row stale fresh (Some effect.Repeated) = fresh
arrival_so P row stale fresh (Some (effect.Responded op)) = fresh
arrival_so P row stale fresh (Some effect.Stopped) = fresh
arrival_so P row stale fresh (Some effect.Started) = fresh

arrival_closed : (row : ℕ) (caused : Option Effect) → is_open (arrival row caused) ≡ false
arrival_closed row caused = arrival_so (λ there. is_open there ≡ false) row refl refl caused

arrival_after : (row : ℕ) (caused : Option Effect) (n : ℕ) → n < row → IsAfter n (arrival row caused)
arrival_after row caused n less = arrival_so (IsAfter n) row less less caused

-- ---- what steps leave in the network
invoke_pool : (s : System) (name : ℕ) (key : List ℕ) (action : Action) (client : Option Client) → (invoke s name key action client).pool ≡ s.pool
invoke_pool s name key action None = refl
invoke_pool s name key action (Some client) = refl

take_pool : (s : System) (name : ℕ) (reply : Reply) (client : Option Client) → (take s name reply client).pool ≡ s.pool
take_pool s name reply None = refl
take_pool s name reply (Some client) = refl

stop_pool : (s : System) (name : ℕ) (client : Option Client) → (stop s name client).pool ≡ s.pool
stop_pool s name None = refl
stop_pool s name (Some client) = refl

up_pool : (s : System) (number : ℕ) (is_up : Bool) (node : Option Node) → (set_up s number is_up node).pool ≡ s.pool
up_pool s number is_up None = refl
up_pool s number is_up (Some node) = refl

ready_pool : (s : System) (name : ℕ) (client : Client) (state : State) → client.state ≡ state → (respond s name (Some client)).pool ≡ s.pool
ready_pool s name client Idle e = ap (λ (x : State). (respond s name (Some (record client { state = x }))).pool) e
ready_pool s name client (Ask asking) e = ap (λ (x : State). (respond s name (Some (record client { state = x }))).pool) e
ready_pool s name client (Put chosen counted) e = ap (λ (x : State). (respond s name (Some (record client { state = x }))).pool) e
ready_pool s name client (Ready chosen) e = ap (λ (x : State). (respond s name (Some (record client { state = x }))).pool) e
ready_pool s name client Stopped e = ap (λ (x : State). (respond s name (Some (record client { state = x }))).pool) e

respond_pool : (s : System) (name : ℕ) (client : Option Client) → (respond s name client).pool ≡ s.pool
respond_pool s name None = refl
respond_pool s name (Some client) = ready_pool s name client client.state refl

-- the flight of a message
flight_of : (flight : Option Flight) (m : Message) → option_map (λ (x : Flight). x.message) flight ≡ Some m → (x : Flight) × (flight ≡ Some x)
flight_of None m e = absurd cc
flight_of (Some x) m e = (x, refl)

-- a flight after a copy less of another
less_by : (flights : Flights) (f q : ℕ) (x : Flight) (last : Bool) → q ≢ f
    → finite.get (cond last (finite.remove flights f) (with_copies flights f x.message (x.copies - 1))) q ≡ finite.get flights q
less_by flights f q x true other = removed_other flights f q other
less_by flights f q x false other = get_other flights f (record { message = x.message; copies = x.copies - 1 }) q other

less_apart : (flights : Flights) (f q : ℕ) (flight : Option Flight) → q ≢ f → finite.get (one_less flights f flight) q ≡ finite.get flights q
less_apart flights f q None other = refl
less_apart flights f q (Some x) other = less_by flights f q x (x.copies == 1) other

-- the arrow of a request and of a reply
abbrev request_from : ℕ → ℕ → ℕ → ℕ → Message → Arrow
request_from row name replica flight m =
    record { flight = flight; client = name; replica = replica; message = m; begins = row; end = ending.Open }

abbrev reply_from : ℕ → ℕ → ℕ → Reply → Arrow
reply_from row flight name reply =
    record { flight = flight; client = name; replica = replier reply; message = ToClient name reply; begins = row; end = ending.Open }

module _ (earlier : List Tried) (row : ℕ) (origin : Origin) (s : System) (arrows : List Arrow) (so_far : Shown earlier row s.pool arrows) where
  -- a step, taken
  abbrev taken : Step → System → TakenStep
  taken step after = record { origin = origin; before = s; step = step; after = after }

  -- the arrows after it
  abbrev arrows_then : Step → System → List Arrow
  arrows_then step after = arrows_by row step (effect_of s step) s.pool.sent (message_of after.pool.flights s.pool.sent) arrows

  -- they are shown
  abbrev Goes : Step → System → Type 0
  Goes step after = Shown (earlier ++ took (taken step after) ∷ []) (row + 1) after.pool (arrows_then step after)

  -- how the copy ends that a delivery takes
  abbrev arrives_so : ℕ → ArrowEnd
  arrives_so flight = arrival row (effect_of s (step.Deliver flight))

  none_given : (after : Pool) → after ≡ s.pool → message_of after.flights s.pool.sent ≡ None
  none_given after same =
      let none : finite.get s.pool.flights s.pool.sent ≡ None =
      none_of (finite.get s.pool.flights s.pool.sent)
      (λ x h. let l : s.pool.sent < s.pool.sent = so_far.agrees.given s.pool.sent x h in absurd (omega (arith, l))) in
      ap (λ (p : Pool). message_of p.flights s.pool.sent) same ∙ ap (option_map (λ (x : Flight). x.message)) none

  sends : (name replica : ℕ) → refusal_of s (step.Send name replica) ≡ None → Goes (step.Send name replica) (system_after s (step.Send name replica))
  sends name replica none =
      let (client, request, is, asks, room) = send_passed s name replica none in
      let after : System = system_after s (step.Send name replica) in
      let m : Message = ToReplica replica request in
      let goes : after.pool ≡ with_sent s.pool m =
      ap (λ (found : Option Client). (send s replica found).pool) is ∙ ap (λ (found : Option Request). (send_to s replica found).pool) asks in
      let there : message_of after.pool.flights s.pool.sent ≡ Some m =
      ap (λ (p : Pool). message_of p.flights s.pool.sent) goes
      ∙ ap (option_map (λ (x : Flight). x.message)) (get_same s.pool.flights s.pool.sent (record { message = m; copies = 1 })) in
      let a : Arrow = request_from row name replica s.pool.sent m in
      subst (λ (found : Option Message). Shown (earlier ++ took (taken (step.Send name replica) after) ∷ []) (row + 1) after.pool
      (arrows ++ request_arrow row name replica s.pool.sent found)) (sym there)
      (sent_on earlier row (taken (step.Send name replica) after) arrows so_far m a refl refl refl goes
      (λ n. next_if_more n ((row, n) ∷ [])) refl)

  loses : (flight : ℕ) → refusal_of s (step.Lose flight) ≡ None → Goes (step.Lose flight) (system_after s (step.Lose flight))
  loses flight none =
      let (x, is) = some_from_is_none (finite.get s.pool.flights flight) (passed _ _ _ none).0 in
      ended_on earlier row (taken (step.Lose flight) (system_after s (step.Lose flight))) arrows so_far flight (ending.Lost row) x refl (λ n h. h) is refl
      refl (λ n. none_if_same n ((row, n) ∷ []))

  repeats : (flight : ℕ) → refusal_of s (step.Repeat flight) ≡ None → Goes (step.Repeat flight) (system_after s (step.Repeat flight))
  repeats flight none =
      let (x, is) = some_from_is_none (finite.get s.pool.flights flight) (passed _ _ _ none).0 in
      let (a, first, under) = found flight arrows (some_under s.pool.sent s.pool.flights arrows so_far.agrees flight x is) in
      let after : System = system_after s (step.Repeat flight) in
      subst (λ (like : Option Arrow). Shown (earlier ++ took (taken (step.Repeat flight) after) ∷ []) (row + 1) after.pool (arrows ++ copy_arrow row like)) (sym first)
      (copied_on earlier row (taken (step.Repeat flight) after) arrows so_far flight x (record a { begins = row }) refl
      (under_flight flight a under) (under_open flight a under) is refl refl)

  -- a delivery after which no message more was sent
  silent : (flight : ℕ) (x : Flight) (after : System) → finite.get s.pool.flights flight ≡ Some x → after.pool ≡ with_one_less s.pool flight
      → Goes (step.Deliver flight) after
  silent flight x after is lost =
      let sent = s.pool.sent in
      let given : flight < sent = so_far.agrees.given flight x is in
      let apart : sent ≢ flight = λ e. absurd (omega (arith, given, e)) in
      let none : message_of after.pool.flights sent ≡ None =
      ap (λ (p : Pool). message_of p.flights sent) lost
      ∙ ap (option_map (λ (y : Flight). y.message)) (less_apart s.pool.flights flight sent (finite.get s.pool.flights flight) apart)
      ∙ none_given s.pool refl in
      let all = ended_on earlier row (taken (step.Deliver flight) after) arrows so_far flight (arrives_so flight) x
      (arrival_closed row (effect_of s (step.Deliver flight))) (arrival_after row (effect_of s (step.Deliver flight))) is refl
      lost (λ n. none_if_same n ((row, n) ∷ [])) in
      subst (λ (found : Option Message). Shown (earlier ++ took (taken (step.Deliver flight) after) ∷ []) (row + 1) after.pool
      (end_flight flight (arrives_so flight) arrows ++ reply_arrow row sent found)) (sym none)
      (subst (Shown (earlier ++ took (taken (step.Deliver flight) after) ∷ []) (row + 1) after.pool)
      (sym (append-nil (end_flight flight (arrives_so flight) arrows))) all)

  -- a delivery that is answered
  answers : (flight : ℕ) (x : Flight) (after : System) (name : ℕ) (reply : Reply) → finite.get s.pool.flights flight ≡ Some x
      → after.pool ≡ with_one_less (with_sent s.pool (ToClient name reply)) flight → Goes (step.Deliver flight) after
  answers flight x after name reply is goes =
      let sent = s.pool.sent in
      let m : Message = ToClient name reply in
      let more : Flights = with_copies s.pool.flights sent m 1 in
      let given : flight < sent = so_far.agrees.given flight x is in
      let apart : sent ≢ flight = λ e. absurd (omega (arith, given, e)) in
      let there : message_of after.pool.flights sent ≡ Some m =
      ap (λ (p : Pool). message_of p.flights sent) goes
      ∙ ap (option_map (λ (y : Flight). y.message)) (less_apart more flight sent (finite.get more flight) apart)
      ∙ ap (option_map (λ (y : Flight). y.message)) (get_same s.pool.flights sent (record { message = m; copies = 1 })) in
      subst (λ (found : Option Message). Shown (earlier ++ took (taken (step.Deliver flight) after) ∷ []) (row + 1) after.pool
      (end_flight flight (arrives_so flight) arrows ++ reply_arrow row sent found)) (sym there)
      (answered_on earlier row (taken (step.Deliver flight) after) arrows so_far flight (arrives_so flight) x
      (arrival_closed row (effect_of s (step.Deliver flight))) (arrival_after row (effect_of s (step.Deliver flight))) is refl
      m (reply_from row sent name reply) refl refl refl goes (λ n. next_if_more n ((row, n) ∷ [])))

  handled : (flight : ℕ) (x : Flight) (number : ℕ) (request : Request) (node : Option Node) (caller : Option ℕ)
      → finite.get s.pool.flights flight ≡ Some x → (after : System) → after.pool ≡ with_one_less (handle s number request node caller).pool flight
      → Goes (step.Deliver flight) after
  handled flight x number request (Some node) (Some client) is after goes = answers flight x after client (reply_of node.replica request) is goes
  handled flight x number request (Some node) None is after goes = silent flight x after is goes
  handled flight x number request None caller is after goes = silent flight x after is goes

  arrives : (flight : ℕ) (message : Option Message) → message_of s.pool.flights flight ≡ message → refusal_of s (step.Deliver flight) ≡ None
      → (after : System) → after.pool ≡ (deliver s flight message).pool → Goes (step.Deliver flight) after
  arrives flight None gone none after goes =
      let refused : refusal_of s (step.Deliver flight) ≡ Some refusal.NotInFlight =
      ap (λ (m : Option Message). first_of (arrival_refusals s m)) gone in
      absurd (let e : Some refusal.NotInFlight ≡ None = sym refused ∙ none in cc)
  arrives flight (Some (ToReplica number request)) there none after goes =
      let (x, is) = flight_of (finite.get s.pool.flights flight) (ToReplica number request) there in
      handled flight x number request (slice_get s.nodes number) (caller_of s.history.rows (op_of request)) is after goes
  arrives flight (Some (ToClient name reply)) there none after goes =
      let (x, is) = flight_of (finite.get s.pool.flights flight) (ToClient name reply) there in
      silent flight x after is
      (goes ∙ ap (λ (p : Pool). with_one_less p flight) (take_pool s name reply (finite.get s.members.clients name)))

  -- a step after which the network is as it was
  pub step_shown : (step : Step) → refusal_of s step ≡ None → Goes step (system_after s step)
  step_shown (step.Join name) none =
      quiet_on earlier row (taken (step.Join name) (system_after s (step.Join name))) arrows so_far refl (λ n. none_if_same n ((row, n) ∷ [])) refl
  step_shown (step.Invoke name key action) none =
      quiet_on earlier row (taken (step.Invoke name key action) (system_after s (step.Invoke name key action))) arrows so_far
      (invoke_pool s name key action (finite.get s.members.clients name)) (λ n. none_if_same n ((row, n) ∷ [])) refl
  step_shown (step.Send name replica) none = sends name replica none
  step_shown (step.Deliver flight) none =
      arrives flight (message_of s.pool.flights flight) refl none (system_after s (step.Deliver flight)) refl
  step_shown (step.Lose flight) none = loses flight none
  step_shown (step.Repeat flight) none = repeats flight none
  step_shown (step.Respond name) none =
      quiet_on earlier row (taken (step.Respond name) (system_after s (step.Respond name))) arrows so_far
      (respond_pool s name (finite.get s.members.clients name)) (λ n. none_if_same n ((row, n) ∷ [])) refl
  step_shown (step.StopClient name) none =
      quiet_on earlier row (taken (step.StopClient name) (system_after s (step.StopClient name))) arrows so_far
      (stop_pool s name (finite.get s.members.clients name)) (λ n. none_if_same n ((row, n) ∷ [])) refl
  step_shown (step.StopReplica number) none =
      quiet_on earlier row (taken (step.StopReplica number) (system_after s (step.StopReplica number))) arrows so_far
      (up_pool s number false (slice_get s.nodes number)) (λ n. none_if_same n ((row, n) ∷ [])) refl
  step_shown (step.StartReplica number) none =
      quiet_on earlier row (taken (step.StartReplica number) (system_after s (step.StartReplica number))) arrows so_far
      (up_pool s number true (slice_get s.nodes number)) (λ n. none_if_same n ((row, n) ∷ [])) refl
