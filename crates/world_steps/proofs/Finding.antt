-- What a step finds in a sound system that doesn't refuse it.
use Rattle.std.proofs.Common.{◌≡◌, ℕ, ◌≤◌, true, false, is_none, List, Option, None, Some, option_map, refl, sym, ◌∙◌, ap, subst, arith}
use Rattle.std.specs.FinMap as finite
use Rattle.std.proofs.lemmas.Bool.{eqb-false}
use Rattle.tag.specs.declared.actions.Action.{Action}
use Rattle.replica.specs.declared.replies.Reply.{Reply}
use Rattle.replica.specs.declared.requests.Request.{Request}
use Rattle.replica.specs.declared.requests.Request.TheVariants.{Query, Put}
use Rattle.client_phases.specs.Calls.{answer_from}
use Rattle.client_phases.specs.Clients.{phase_of}
use Rattle.client_phases.specs.declared.clients.Client.{Client}
use Rattle.client_phases.specs.declared.rules.Rules.{Rules}
use Rattle.client_phases.specs.declared.states.State.{State}
use Rattle.client_phases.specs.declared.states.State.TheVariants.{Idle, Ready}
use Rattle.network.specs.Flights.{copies_of, copy_limit, message_of}
use Rattle.network.specs.declared.flights.Flight.{Flight}
use Rattle.network.specs.declared.messages.Message.{Message}
use Rattle.network.specs.declared.messages.Message.TheVariants.{ToReplica, ToClient}
use Rattle.recorder.specs.Histories.{call_count}
use Rattle.recorder.specs.declared.row.Row.{Row}
use Rattle.world_steps.specs.Moves.{IsClient, MayInvoke, MaySend, MayHandle, MayHear, MayArrive, MayDeliver, MayRepeat, MayRespond, MayStop, MayMove}
use Rattle.world_steps.specs.Refusals.{refusal_of, arrival_refusals, first_of}
use Rattle.world_steps.specs.Sound.{Invoked, StateSound, MessageSound, Tags, tags_of}
use Rattle.world_steps.specs.Sound.MessageSound.{SoundQuery, SoundPut}
use Rattle.world_steps.specs.SoundSystems.{Flies, IsIn, IsSound, held_in}
use Rattle.world_steps.specs.Systems.{op_of}
use Rattle.world_steps.specs.declared.step.Step.{Step}
use Rattle.world_steps.specs.declared.step.Step.TheVariants as step
use Rattle.world_steps.specs.declared.system.System.{System}
use Rattle.world_steps.proofs.Answering.{response_fits}
use Rattle.world_steps.proofs.Callers.{caller_found}
use Rattle.world_steps.proofs.Following.{not_busy, response_follows, heard_notes}
use Rattle.world_steps.proofs.Heard.{hears}
use Rattle.tag.proofs.Lists.{get_at}
use Rattle.world_steps.proofs.Passed.{passed, client_there, invoke_passed, replica_there, respond_passed, room_for_flight, send_passed}

-- the message of a flight flies
pub flies : (s : System) (flight : ℕ) (message : Message) → message_of s.pool.flights flight ≡ Some message → Flies s.pool.flights message
flies s flight message e = under_way (finite.get s.pool.flights flight) refl e
  where
    under_way : (found : Option Flight) → finite.get s.pool.flights flight ≡ found → option_map (λ f. f.message) found ≡ Some message → Flies s.pool.flights message
    under_way None is e = absurd cc
    under_way (Some f) is e =
        let same : f.message ≡ message = cc in
        record { number = flight; copies = f.copies; is = is ∙ ap (λ m. Some (record { message = m; copies = f.copies })) same }

-- the call that a request names is begun
pub begun : (R : List Row) (tags : Tags) (number : ℕ) (request : Request) → MessageSound R tags (ToReplica number request) → (key : List ℕ) × Invoked R (op_of request) key
begun R tags number (Query op key) (SoundQuery i) = (key, i)
begun R tags number (Put op key tag value) (SoundPut i n g) = (key, i)

module _ (s : System) (sound : IsSound s) where
  -- a client's state, as the invariant has it
  pub state_is : (name : ℕ) (client : Client) → IsClient s name client → IsIn s.members.clients name client.state
  state_is name client is = record { rules = client.rules; is = is }

  pub state_sound : (name : ℕ) (client : Client) → IsClient s name client → (state : State) → client.state ≡ state → StateSound s.config.quorums s.history.rows (tags_of (held_in s.nodes)) name state
  state_sound name client is state e =
      subst (StateSound s.config.quorums s.history.rows (tags_of (held_in s.nodes)) name) e (sound.sound.states name client.state (state_is name client is))

  may_invoke : (name : ℕ) (key : List ℕ) (action : Action) → refusal_of s (step.Invoke name key action) ≡ None → MayInvoke s name
  may_invoke name key action none =
      let (client, is, idle, room) = invoke_passed s name key action none in
      record {
        client = client;
        is = is;
        idle = ap (λ x. phase_of (record { rules = client.rules; state = x })) idle;
        not_busy = not_busy s.config.quorums s.history.rows (tags_of (held_in s.nodes)) name (state_sound name client is Idle idle);
        room = room;
      }

  may_send : (name replica : ℕ) → refusal_of s (step.Send name replica) ≡ None → MaySend s name
  may_send name replica none =
      let (client, request, is, sends, room) = send_passed s name replica none in
      record { client = client; is = is; request = request; sends = sends; room = room }

  may_handle : (number : ℕ) (request : Request) → Flies s.pool.flights (ToReplica number request) → first_of (arrival_refusals s (Some (ToReplica number request))) ≡ None → MayHandle s number request
  may_handle number request f none =
      let first = passed _ _ _ none in
      let second = passed _ _ _ first.1 in
      let (node, is) = get_at s.nodes number (sound.to_replicas number request f) in
      let (key, call) = begun s.history.rows (tags_of (held_in s.nodes)) number request (sound.sound.messages (ToReplica number request) f) in
      record {
        node = node;
        is = is;
        numbered = sound.numbered number node is;
        client = call.client;
        caller = caller_found s.history.rows sound.sound.recorded (op_of request) key call;
        room = room_for_flight s second.0;
      }

  may_hear : (name : ℕ) (reply : Reply) → Flies s.pool.flights (ToClient name reply) → MayHear s name reply
  may_hear name reply f =
      let (client, is) = sound.to_clients name reply f in
      let ruled : client.rules ≡ _ = sound.ruled name client is in
      let calls : call_count s.history.rows ≤ s.history.limit = sound.calls in
      let limit : s.history.limit ≤ 1000000 = sound.limit in
      record {
        client = client;
        is = is;
        takes = hears s.config.quorums s.history.rows (held_in s.nodes) (Flies s.pool.flights) (IsIn s.members.clients) name name client.rules client.state reply
            (ap (λ (r : Rules). r.name) ruled) (ap (λ (r : Rules). r.quorums) ruled) sound.sound (state_is name client is) f (omega (arith, calls, limit));
        notes = heard_notes s s.config.quorums (tags_of (held_in s.nodes)) name client.rules client.state reply (state_sound name client is client.state refl);
      }

  may_arrive : (message : Message) → Flies s.pool.flights message → first_of (arrival_refusals s (Some message)) ≡ None → MayArrive s message
  may_arrive (ToReplica number request) f none = may_handle number request f none
  may_arrive (ToClient name reply) f none = may_hear name reply f

  may_deliver_found : (flight : ℕ) (found : Option Message) → message_of s.pool.flights flight ≡ found → first_of (arrival_refusals s found) ≡ None → MayDeliver s flight
  may_deliver_found flight None is none = absurd cc
  may_deliver_found flight (Some message) is none = record { message = message; is = is; arrives = may_arrive message (flies s flight message is) none }

  pub may_respond : (name : ℕ) → refusal_of s (step.Respond name) ≡ None → MayRespond s name
  may_respond name none =
      let (client, chosen, is, ready) = respond_passed s name none in
      record {
        client = client;
        is = is;
        chosen = chosen;
        ready = ready;
        answers =
            let follows = response_follows s.config.quorums s.history.rows (tags_of (held_in s.nodes)) name chosen (state_sound name client is (Ready chosen) ready) in
            record { follows = follows; fits = response_fits s.history.rows sound.sound.recorded chosen.call.op (answer_from chosen) follows };
      }

  may_stop : (name : ℕ) → refusal_of s (step.StopClient name) ≡ None → MayStop s name
  may_stop name none =
      let (client, is) = client_there s name (passed _ _ _ none).0 in
      record { client = client; is = is }

-- a flight that is there, and whose copies aren't full
may_repeat : (s : System) (flight : ℕ) → refusal_of s (step.Repeat flight) ≡ None → MayRepeat s flight
may_repeat s flight none =
    let first = passed _ _ _ none in
    let second = passed _ _ _ first.1 in
    record {
      is_there = λ e. absurd (let t : true ≡ false = sym (ap is_none e) ∙ first.0 in cc);
      not_full = λ e. absurd (eqb-false (copies_of s.pool.flights flight) copy_limit second.0 e);
    }

pub may_move : (s : System) (step : Step) → IsSound s → refusal_of s step ≡ None → MayMove s step
may_move s (step.Join name) sound none = tt
may_move s (step.Invoke name key action) sound none = may_invoke s sound name key action none
may_move s (step.Send name replica) sound none = may_send s sound name replica none
may_move s (step.Deliver flight) sound none = may_deliver_found s sound flight (message_of s.pool.flights flight) refl none
may_move s (step.Lose flight) sound none = tt
may_move s (step.Repeat flight) sound none = may_repeat s flight none
may_move s (step.Respond name) sound none = may_respond s sound name none
may_move s (step.StopClient name) sound none = may_stop s sound name none
may_move s (step.StopReplica number) sound none = replica_there s number (passed _ _ _ none).0
may_move s (step.StartReplica number) sound none = replica_there s number (passed _ _ _ none).0
