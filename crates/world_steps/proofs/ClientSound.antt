-- A client becomes another: joins, invocations, responses and stops keep the system sound.
use Rattle.std.proofs.Common.{◌≡◌, ℕ, ◌<◌, ◌≤◌, List, ◌∷◌, [], ◌++◌, Option, None, Some, refl, sym, ◌∙◌, ap, subst, inl, inr, arith}
use Rattle.std.specs.FinMap as finite
use Rattle.tag.specs.declared.actions.Action.{Action}
use Rattle.client_phases.specs.Calls.{Chosen, answer_from}
use Rattle.client_phases.specs.Clients.{client_of, client_after_invoke, client_after_stop}
use Rattle.client_phases.specs.declared.calls.Call.{Call}
use Rattle.client_phases.specs.declared.clients.Client.{Client}
use Rattle.client_phases.specs.declared.states.State.{State}
use Rattle.client_phases.specs.declared.states.State.TheVariants.{Idle, Ready, Stopped}
use Rattle.recorder.specs.Answers.{with_row}
use Rattle.recorder.specs.Histories.{Recorded, call_count}
use Rattle.recorder.specs.declared.row.Row.TheVariants.{Invoke, Respond}
use Rattle.world_steps.specs.Clients.{Clients}
use Rattle.world_steps.specs.Moves.{IsClient}
use Rattle.world_steps.specs.Sound.{Sound}
use Rattle.world_steps.specs.Sound.StateSound.{SoundIdle, SoundStopped}
use Rattle.world_steps.specs.SoundSystems.{AreNamed, Flies, IsIn, IsSound, IsWaiting, held_in, rules_of}
use Rattle.world_steps.specs.Systems.{join, invoke, respond, stop, next_call}
use Rattle.world_steps.specs.declared.system.System.{System}
use Rattle.network.proofs.Lookups.{get_cases}
use Rattle.world_steps.proofs.Named.{named_insert, named_push}
use Rattle.world_steps.proofs.RowLaws.{count_push}
use Rattle.world_steps.proofs.RowSteps.{responding, invoking}
use Rattle.world_steps.proofs.SameRows.{Became, becoming}
use Rattle.world_steps.proofs.SameRows.Became.{Other, This}
use Rattle.world_steps.proofs.Waiting.{nobody_asked}

-- ---- which states clients are in, once one became another
same_client : (a b : Client) → Some a ≡ Some b → a ≡ b
same_client a b e = cc

pub became_insert : (clients : Clients) (name : ℕ) (new : Client) (d : ℕ) (x : State) → IsIn (finite.insert clients name new) d x → Became (IsIn clients) name new.state d x
became_insert clients name new d x i =
    elim (get_cases clients name new d) [
      | inl here ↦ This here.0 (ap (λ (c : Client). c.state) (same_client (record { rules = i.rules; state = x }) new (sym i.is ∙ here.1)))
      | inr there ↦ Other there.0 (record { rules = i.rules; is = sym there.1 ∙ i.is })
    ]

pub there_insert : (clients : Clients) (name : ℕ) (new : Client) (d : ℕ) (x : State) → IsIn clients d x → (y : State) × IsIn (finite.insert clients name new) d y
there_insert clients name new d x i =
    elim (get_cases clients name new d) [
      | inl here ↦ (new.state, record { rules = new.rules; is = here.1 })
      | inr there ↦ (x, record { rules = i.rules; is = there.1 ∙ i.is })
    ]

-- the system with a client that joined or became another, and those rows
pub turned_system : (s : System) (sound : IsSound s) (joined : List ℕ) (name : ℕ) (new : Client) (history : Recorded) → AreNamed (record { joined = joined; clients = finite.insert s.members.clients name new })
    → new.rules ≡ rules_of s.config name → IsWaiting s.config.quorums new.state
    → call_count history.rows ≤ history.limit → history.limit ≡ s.history.limit
    → Sound s.config.quorums history.rows (held_in s.nodes) (Flies s.pool.flights) (IsIn (finite.insert s.members.clients name new))
    → IsSound (record s { members = record { joined = joined; clients = finite.insert s.members.clients name new }; history = history })
turned_system s sound joined name new history named ruled waits calls limit is = record {
  sound = is;
  ruled = λ d client e.
      elim (get_cases s.members.clients name new d) [
        | inl here ↦ ap (λ (c : Client). c.rules) (same_client client new (sym e ∙ here.1)) ∙ ruled ∙ ap (rules_of s.config) (sym here.0)
        | inr there ↦ sound.ruled d client (sym there.1 ∙ e)
      ];
  waiting = λ d client e.
      elim (get_cases s.members.clients name new d) [
        | inl here ↦ subst (λ (c : Client). IsWaiting s.config.quorums c.state) (sym (same_client client new (sym e ∙ here.1))) waits
        | inr there ↦ sound.waiting d client (sym there.1 ∙ e)
      ];
  numbered = sound.numbered;
  to_replicas = sound.to_replicas;
  to_clients = λ d reply f.
      elim (get_cases s.members.clients name new d) [
        | inl here ↦ (new, here.1)
        | inr there ↦ let (client, was) = sound.to_clients d reply f in (client, there.1 ∙ was)
      ];
  calls = calls;
  limit = subst (λ n. n ≤ 1000000) (sym limit) sound.limit;
  named = named;
  configured = record { replicas = sound.configured.replicas; flights = sound.configured.flights; calls = limit ∙ sound.configured.calls };
}

module _ (s : System) (sound : IsSound s) where
  -- ---- a client joins
  pub join_sound : (name : ℕ) → finite.get s.members.clients name ≡ None → IsSound (join s name)
  join_sound name new =
      let client : Client = client_of name s.config.quorums s.config.reads in
      turned_system s sound (s.members.joined ++ name ∷ []) name client s.history (named_push s.members sound.named name client new) refl tt sound.calls refl
      (becoming s.config.quorums s.history.rows (held_in s.nodes) (Flies s.pool.flights) (IsIn s.members.clients) (IsIn (finite.insert s.members.clients name client)) name Idle sound.sound
      (SoundIdle (λ p op key action is.
      let was : (state : State) × IsIn s.members.clients name state = sound.sound.joined p op name key action is in
      let none : None ≡ Some (record { rules = was.1.rules; state = was.0 }) = sym new ∙ was.1.is in
      absurd cc))
      tt (became_insert s.members.clients name client) (there_insert s.members.clients name client))

  -- ---- a client invokes a call
  invoked_sound : (name : ℕ) (key : List ℕ) (action : Action) (client : Client) → IsClient s name client → client.state ≡ Idle → call_count s.history.rows < s.history.limit
      → IsSound (invoke s name key action (Some client))
  invoked_sound name key action client is idle room =
      let call : Call = record { op = next_call s; key = key; action = action } in
      let new : Client = client_after_invoke client call.op key action in
      let counted = count_push s.history.rows (Invoke call.op name key action) in
      turned_system s sound s.members.joined name new (with_row s.history (Invoke call.op name key action)) (named_insert s.members sound.named name client new is) (sound.ruled name client is) (nobody_asked s.config.quorums sound.sound.lawful) (omega (arith, counted, room)) refl
      (invoking s.config.quorums s.history.rows (held_in s.nodes) (Flies s.pool.flights) (IsIn s.members.clients) (IsIn (finite.insert s.members.clients name new)) name call sound.sound
      (record { rules = client.rules; is = is ∙ ap (λ x. Some (record { rules = client.rules; state = x })) idle })
      refl (became_insert s.members.clients name new) (there_insert s.members.clients name new))

  pub invoke_sound : (name : ℕ) (key : List ℕ) (action : Action) (client : Client) → IsClient s name client → client.state ≡ Idle → call_count s.history.rows < s.history.limit
      → IsSound (invoke s name key action (finite.get s.members.clients name))
  invoke_sound name key action client is idle room = subst (λ found. IsSound (invoke s name key action found)) (sym is) (invoked_sound name key action client is idle room)

  -- ---- a client that is ready answers
  responded_sound : (name : ℕ) (client : Client) (chosen : Chosen) → finite.get s.members.clients name ≡ Some (record { rules = client.rules; state = Ready chosen })
      → IsSound (respond s name (Some (record { rules = client.rules; state = Ready chosen })))
  responded_sound name client chosen is =
      let new : Client = record { rules = client.rules; state = Idle } in
      let counted = count_push s.history.rows (Respond chosen.call.op (answer_from chosen)) in
      let calls = sound.calls in
      turned_system s sound s.members.joined name new (with_row s.history (Respond chosen.call.op (answer_from chosen))) (named_insert s.members sound.named name _ new is) (sound.ruled name _ is) tt (omega (arith, counted, calls)) refl
      (responding s.config.quorums s.history.rows (held_in s.nodes) (Flies s.pool.flights) (IsIn s.members.clients) (IsIn (finite.insert s.members.clients name new)) name chosen sound.sound
      (record { rules = client.rules; is = is })
      (became_insert s.members.clients name new) (there_insert s.members.clients name new))

  pub respond_sound : (name : ℕ) (client : Client) (chosen : Chosen) → IsClient s name client → client.state ≡ Ready chosen → IsSound (respond s name (finite.get s.members.clients name))
  respond_sound name client chosen is ready =
      let there : finite.get s.members.clients name ≡ Some (record { rules = client.rules; state = Ready chosen }) = is ∙ ap (λ x. Some (record { rules = client.rules; state = x })) ready in
      subst (λ found. IsSound (respond s name found)) (sym there) (responded_sound name client chosen there)

  -- ---- a client stops
  stopped_sound : (name : ℕ) (found : Option Client) → finite.get s.members.clients name ≡ found → IsSound (stop s name found)
  stopped_sound name None is = sound
  stopped_sound name (Some client) is =
      let new : Client = client_after_stop client in
      turned_system s sound s.members.joined name new s.history (named_insert s.members sound.named name client new is) (sound.ruled name client is) tt sound.calls refl
      (becoming s.config.quorums s.history.rows (held_in s.nodes) (Flies s.pool.flights) (IsIn s.members.clients) (IsIn (finite.insert s.members.clients name new)) name Stopped sound.sound
      SoundStopped tt (became_insert s.members.clients name new) (there_insert s.members.clients name new))

  pub stop_sound : (name : ℕ) → IsSound (stop s name (finite.get s.members.clients name))
  stop_sound name = stopped_sound name (finite.get s.members.clients name) refl
