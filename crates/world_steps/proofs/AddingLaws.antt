-- A step adds a row of one client at most: of the client that it names or delivers to.
use Rattle.std.proofs.Common.{◌≡◌, ℕ, Bool, true, false, cond, is_some, List, Option, None, Some, refl, sym, subst, slice_get}
use Rattle.std.specs.FinMap as finite
use Rattle.std.specs.FinSet as finite_set
use Rattle.tag.specs.declared.actions.Action.{Action}
use Rattle.tag.specs.declared.numbers.OpId.{OpId}
use Rattle.quorum.specs.Sets.{Replicas}
use Rattle.quorum.specs.Quorums.{is_put_quorum}
use Rattle.replica.specs.declared.pairs.Pair.{Pair}
use Rattle.replica.specs.declared.replies.Reply.{Reply}
use Rattle.replica.specs.declared.replies.Reply.TheVariants.{Held, Kept}
use Rattle.replica.specs.declared.requests.Request.{Request}
use Rattle.client_phases.specs.Clients.{request_of}
use Rattle.client_phases.specs.Asking.{Asking, counts, asking_with}
use Rattle.client_phases.specs.Calls.{Chosen, answer_from}
use Rattle.client_phases.specs.States.{asking_outcome, putting_outcome, reply_outcome}
use Rattle.client_phases.specs.declared.calls.Call.{Call}
use Rattle.client_phases.specs.declared.clients.Client.{Client}
use Rattle.client_phases.specs.declared.outcomes.Taken.{Taken}
use Rattle.client_phases.specs.declared.outcomes.Taken.TheVariants.{Stale, Counted, Noted, Agreed}
use Rattle.client_phases.specs.declared.outcomes.Taken.TheVariants as outcome
use Rattle.client_phases.specs.declared.rules.Rules.{Rules}
use Rattle.client_phases.specs.declared.states.State.{State}
use Rattle.client_phases.specs.declared.states.State.TheVariants.{Idle, Ask, Put, Ready, Stopped}
use Rattle.network.specs.Flights.{message_of}
use Rattle.network.specs.declared.messages.Message.{Message}
use Rattle.network.specs.declared.messages.Message.TheVariants.{ToReplica, ToClient}
use Rattle.recorder.specs.Histories.{caller_of}
use Rattle.recorder.specs.declared.row.Row.TheVariants.{Invoke, Note, Respond}
use Rattle.world_steps.specs.Lasting.{AddsRowOf, Began, client_in, receiver}
use Rattle.world_steps.specs.Lasting.AddsRowOf.{NoRow, OneRow}
use Rattle.world_steps.specs.Moves.{IsClient}
use Rattle.world_steps.specs.Refusals.{refusal_of}
use Rattle.world_steps.specs.Runs.{next}
use Rattle.world_steps.specs.Sound.{Pending, StateSound, tags_of}
use Rattle.world_steps.specs.Sound.StateSound.{SoundAsking, SoundReady}
use Rattle.world_steps.specs.SoundSystems.{IsSound, held_in}
use Rattle.world_steps.specs.Systems.{answered_op, deliver, handle, invoke, system_after, next_call, op_of, respond, send, send_to, set_up, stop, take, with_note}
use Rattle.world_steps.specs.declared.nodes.Node.{Node}
use Rattle.world_steps.specs.declared.step.Step.{Step}
use Rattle.world_steps.specs.declared.step.Step.TheVariants as step
use Rattle.world_steps.specs.declared.system.System.{System}
use Rattle.world_steps.proofs.Following.{counts_op}

module _ (s : System) where
  abbrev Adds : Option ℕ → System → Type 0
  Adds found t = AddsRowOf found s.history.rows t.history.rows

  still : (found : Option ℕ) → AddsRowOf found s.history.rows s.history.rows
  still found = NoRow refl

  pending : (name : ℕ) (call : Call) → Pending s.history.rows name call → Began s.history.rows name call.op
  pending name call w = record { place = w.place; key = call.key; action = call.action; is = w.is }

  -- ---- what is noted where a reply is heard
  noted : (name : ℕ) (op : OpId) → Began s.history.rows name op → (outcome : Taken) → AddsRowOf (Some name) s.history.rows (with_note s.history op outcome).rows
  noted name op began (Noted tag) = OneRow name (Note op tag) refl began refl
  noted name op began (Agreed tag) = OneRow name (Note op tag) refl began refl
  noted name op began Stale = NoRow refl
  noted name op began Counted = NoRow refl
  noted name op began outcome.Ready = NoRow refl

  by_asking : (name : ℕ) (rules : Rules) (asking : Asking) (op : OpId) (replica : ℕ) (pair : Pair) (b : Bool) → counts rules asking.call asking.counted op replica ≡ b
      → Began s.history.rows name asking.call.op
      → AddsRowOf (Some name) s.history.rows (with_note s.history op (cond {A = State × Taken} b (asking_outcome rules (asking_with asking replica pair)) (Ask asking, Stale)).1).rows
  by_asking name rules asking op replica pair true e began =
      let same : op ≡ asking.call.op = counts_op rules asking.call asking.counted op replica e in
      noted name op (subst (Began s.history.rows name) (sym same) began) (asking_outcome rules (asking_with asking replica pair)).1
  by_asking name rules asking op replica pair false e began = NoRow refl

  by_kept : (name : ℕ) (op : OpId) (chosen : Chosen) (counted : Replicas) (b : Bool)
      → AddsRowOf (Some name) s.history.rows (with_note s.history op (cond {A = State × Taken} b (Ready chosen, outcome.Ready) (Put chosen counted, Counted)).1).rows
  by_kept name op chosen counted true = NoRow refl
  by_kept name op chosen counted false = NoRow refl

  by_put : (name : ℕ) (rules : Rules) (op : OpId) (chosen : Chosen) (old new : Replicas) (b : Bool)
      → AddsRowOf (Some name) s.history.rows (with_note s.history op (cond {A = State × Taken} b (putting_outcome rules chosen new) (Put chosen old, Stale)).1).rows
  by_put name rules op chosen old new true = by_kept name op chosen new (is_put_quorum rules.quorums new)
  by_put name rules op chosen old new false = NoRow refl

  heard_row : (name : ℕ) (rules : Rules) (state : State) (reply : Reply) → StateSound s.config.quorums s.history.rows (tags_of (held_in s.nodes)) name state
      → AddsRowOf (Some name) s.history.rows (with_note s.history (answered_op reply) (reply_outcome rules state reply).1).rows
  heard_row name rules (Ask asking) (Held op replica tag value) (SoundAsking w n g h) =
      by_asking name rules asking op replica (record { tag = tag; value = value }) (counts rules asking.call asking.counted op replica) refl (pending name asking.call w)
  heard_row name rules (Ask asking) (Kept op replica) good = NoRow refl
  heard_row name rules (Put chosen counted) (Held op replica tag value) good = NoRow refl
  heard_row name rules (Put chosen counted) (Kept op replica) good = by_put name rules op chosen counted (finite_set.insert counted replica) (counts rules chosen.call counted op replica)
  heard_row name rules Idle reply good = NoRow refl
  heard_row name rules (Ready chosen) reply good = NoRow refl
  heard_row name rules Stopped reply good = NoRow refl

  module _ (sound : IsSound s) where
    state_of : (name : ℕ) (client : Client) → IsClient s name client → StateSound s.config.quorums s.history.rows (tags_of (held_in s.nodes)) name client.state
    state_of name client is = sound.sound.states name client.state (record { rules = client.rules; is = is })

    taken_row : (name : ℕ) (reply : Reply) (found : Option Client) → finite.get s.members.clients name ≡ found → Adds (Some name) (take s name reply found)
    taken_row name reply None is = NoRow refl
    taken_row name reply (Some client) is = heard_row name client.rules client.state reply (state_of name client is)

    handled_row : (number : ℕ) (request : Request) (found : Option Node) (caller : Option ℕ) → Adds None (handle s number request found caller)
    handled_row number request (Some node) (Some client) = NoRow refl
    handled_row number request (Some node) None = NoRow refl
    handled_row number request None caller = NoRow refl

    delivered_row : (flight : ℕ) (found : Option Message) → message_of s.pool.flights flight ≡ found → Adds (client_in s (step.Deliver flight)) (deliver s flight found)
    delivered_row flight None is = NoRow refl
    delivered_row flight (Some (ToReplica number request)) is =
        subst (λ found. AddsRowOf (receiver found) s.history.rows (deliver s flight (Some (ToReplica number request))).history.rows) (sym is)
        (handled_row number request (slice_get s.nodes number) (caller_of s.history.rows (op_of request)))
    delivered_row flight (Some (ToClient name reply)) is =
        subst (λ found. AddsRowOf (receiver found) s.history.rows (deliver s flight (Some (ToClient name reply))).history.rows) (sym is)
        (taken_row name reply (finite.get s.members.clients name) refl)

    -- ---- the other steps
    invoked_row : (name : ℕ) (key : List ℕ) (action : Action) (found : Option Client) → Adds (Some name) (invoke s name key action found)
    invoked_row name key action (Some client) = OneRow name (Invoke (next_call s) name key action) refl refl refl
    invoked_row name key action None = NoRow refl

    responded_by : (name : ℕ) (rules : Rules) (state : State) → StateSound s.config.quorums s.history.rows (tags_of (held_in s.nodes)) name state
        → Adds (Some name) (respond s name (Some (record { rules = rules; state = state })))
    responded_by name rules (Ready chosen) (SoundReady w n g h) = OneRow name (Respond chosen.call.op (answer_from chosen)) refl (pending name chosen.call w) refl
    responded_by name rules Idle good = NoRow refl
    responded_by name rules (Ask asking) good = NoRow refl
    responded_by name rules (Put chosen counted) good = NoRow refl
    responded_by name rules Stopped good = NoRow refl

    responded_row : (name : ℕ) (found : Option Client) → finite.get s.members.clients name ≡ found → Adds (Some name) (respond s name found)
    responded_row name None is = NoRow refl
    responded_row name (Some client) is = responded_by name client.rules client.state (state_of name client is)

    sent_by : (found : Option ℕ) (replica : ℕ) (request : Option Request) → Adds found (send_to s replica request)
    sent_by found replica (Some request) = NoRow refl
    sent_by found replica None = NoRow refl

    sent_row : (found : Option ℕ) (replica : ℕ) (client : Option Client) → Adds found (send s replica client)
    sent_row found replica None = NoRow refl
    sent_row found replica (Some client) = sent_by found replica (request_of client)

    stopped_row : (name : ℕ) (client : Option Client) → Adds (Some name) (stop s name client)
    stopped_row name None = NoRow refl
    stopped_row name (Some client) = NoRow refl

    set_row : (number : ℕ) (is_up : Bool) (node : Option Node) → Adds None (set_up s number is_up node)
    set_row number is_up None = NoRow refl
    set_row number is_up (Some node) = NoRow refl

moved_row : (s : System) → IsSound s → (step : Step) → AddsRowOf (client_in s step) s.history.rows (system_after s step).history.rows
moved_row s sound (step.Join name) = NoRow refl
moved_row s sound (step.Invoke name key action) = invoked_row s sound name key action (finite.get s.members.clients name)
moved_row s sound (step.Send name replica) = sent_row s sound (Some name) replica (finite.get s.members.clients name)
moved_row s sound (step.Deliver flight) = delivered_row s sound flight (message_of s.pool.flights flight) refl
moved_row s sound (step.Lose flight) = NoRow refl
moved_row s sound (step.Repeat flight) = NoRow refl
moved_row s sound (step.Respond name) = responded_row s sound name (finite.get s.members.clients name) refl
moved_row s sound (step.StopClient name) = stopped_row s sound name (finite.get s.members.clients name)
moved_row s sound (step.StopReplica number) = set_row s sound number false (slice_get s.nodes number)
moved_row s sound (step.StartReplica number) = set_row s sound number true (slice_get s.nodes number)

next_by : (s : System) → IsSound s → (step : Step) (b : Bool) → AddsRowOf (client_in s step) s.history.rows (cond b s (system_after s step)).history.rows
next_by s sound step true = NoRow refl
next_by s sound step false = moved_row s sound step

pub next_row : (s : System) → IsSound s → (step : Step) → AddsRowOf (client_in s step) s.history.rows (next s step).history.rows
next_row s sound step = next_by s sound step (is_some (refusal_of s step))
