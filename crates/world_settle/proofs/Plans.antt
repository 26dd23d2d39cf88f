-- The steps that complete a pending call: there are some, and no others.
use Rattle.std.proofs.Common.{◌≡◌, ℕ, zero, suc, ◌+◌, ◌*◌, ◌≤◌, true, false, not, is_none, length, List, [], ◌∷◌, ◌++◌, Option, None, Some, option_map, slice_get, refl, sym, ◌∙◌, ap, subst, arith}
use Rattle.std.specs.Prelude.{option_and_then}
use Rattle.std.specs.FinMap as map
use Rattle.std.specs.FinSet as finite
use Rattle.std.specs.Option.{option_map_or}
use Rattle.quorum.specs.Quorums.{Quorums, IsAskQuorum, IsPutQuorum, is_ask_quorum, is_put_quorum}
use Rattle.quorum.specs.Sets.{Replicas}
use Rattle.replica.specs.Pairs.{pair_of}
use Rattle.replica.specs.Replicas.{replica_after, reply_of}
use Rattle.replica.specs.declared.replies.Reply.{Reply}
use Rattle.replica.specs.declared.replies.Reply.TheVariants.{Held, Kept}
use Rattle.replica.specs.declared.requests.Request.{Request}
use Rattle.client_phases.specs.Asking.{Asking, query_of}
use Rattle.client_phases.specs.Calls.{Chosen, answer_from, put_of}
use Rattle.client_phases.specs.declared.calls.Call.{Call}
use Rattle.client_phases.specs.Clients.{client_after, counted_by, pending_of, phase_of}
use Rattle.client_phases.specs.States.{reply_outcome}
use Rattle.client_phases.specs.declared.clients.Client.{Client}
use Rattle.client_phases.specs.declared.outcomes.Phase.{Phase}
use Rattle.client_phases.specs.declared.outcomes.Phase.TheVariants as phase
use Rattle.client_phases.specs.declared.rules.Rules.{Rules}
use Rattle.client_phases.specs.declared.states.State.{State}
use Rattle.client_phases.specs.declared.states.State.TheVariants.{Idle, Ask, Put, Ready, Stopped}
use Rattle.recorder.specs.Histories.{caller_of}
use Rattle.recorder.specs.declared.row.Row.{Row}
use Rattle.recorder.specs.declared.row.Row.TheVariants.{Respond}
use Rattle.world_steps.specs.Moves.{IsClient}
use Rattle.world_steps.specs.Refusals.{refusal_of, phase_at, is_stopped, is_ready, has_request, no_such_client}
use Rattle.world_steps.specs.Runs.{AreAccepted, next, after_from}
use Rattle.world_steps.specs.Sound.{Pending, StateSound, Tags, tags_of}
use Rattle.world_steps.specs.Sound.StateSound.{SoundAsking, SoundPutting}
use Rattle.world_steps.specs.SoundSystems.{IsSound, held_in}
use Rattle.world_steps.specs.Systems.{respond}
use Rattle.world_steps.specs.declared.nodes.Node.{Node}
use Rattle.world_steps.specs.declared.refusal.Refusal.TheVariants as refusal
use Rattle.world_steps.specs.declared.step.Step.{Step}
use Rattle.world_steps.specs.declared.step.Step.TheVariants as step
use Rattle.world_steps.specs.declared.system.System.{System}
use Rattle.world_steps.proofs.Callers.{caller_found}
use Rattle.network.proofs.Lookups.{get_same}
use Rattle.world_steps.proofs.ReplicaSound.{read_alike}
use Rattle.world_steps.proofs.StepAnswers.{next_moved}
use Rattle.world_steps.proofs.Passed.{phase_is}
use Rattle.world_settle.specs.Settling.{AreSettleSteps, candidates, counted_at, is_up, round}
use Rattle.world_settle.specs.Settling.AreSettleSteps.{answers, asks}
use Rattle.world_settle.specs.Refusing.{MaySettle, Needs, NeedsAt, pending_at}
use Rattle.world_settle.specs.SettleAnswers.{Completes, IsWithin}
use Rattle.world_settle.proofs.CandidateLemmas.{Candidate, candidate_first}
use Rattle.world_settle.proofs.LeastCounts.{needs_once, some_candidate}
use Rattle.world_settle.proofs.Replies.{Fewer, fewer_asked, fewer_kept, heard_pending, not_ask, not_put}
use Rattle.world_settle.proofs.Rounds.{MayRound, handled_nodes, pass, round_is, round_taken, asking_or_putting, third_system}

-- from a sound system steps lead to a sound one, as the law of the steps says
abbrev pub StepsKeepSound : Type 0
StepsKeepSound = (s : System) (steps : List Step) → IsSound s → IsSound (after_from s steps)

-- steps that complete the call, none of which is refused
pub record Plan (s : System) (name a b : ℕ) : Type 0 where
  pub steps : List Step
  pub settles : AreSettleSteps name s steps
  pub taken : AreAccepted s steps
  pub few : length steps ≤ 3 * (a + b) + 1
  pub completes : Completes s name (after_from s steps)

-- ---- the response
module _ (s : System) (name : ℕ) (rules : Rules) (chosen : Chosen) (is : IsClient s name (record { rules = rules; state = Ready chosen })) where
  ready : phase_at s name ≡ Some phase.Ready
  ready = phase_is s name (record { rules = rules; state = Ready chosen }) is

  respond_taken : refusal_of s (step.Respond name) ≡ None
  respond_taken =
      pass refusal.NoSuchClient (no_such_client s name) _ (ap is_none is)
      (pass refusal.ClientStopped (is_stopped (phase_at s name)) _ (ap is_stopped ready)
      (pass refusal.NotReady (not (is_ready (phase_at s name))) None (ap (λ p. not (is_ready p)) ready) refl))

  respond_is : next s (step.Respond name) ≡ respond s name (Some (record { rules = rules; state = Ready chosen }))
  respond_is = next_moved s (step.Respond name) respond_taken ∙ ap (respond s name) is

  answered : Completes s name (next s (step.Respond name))
  answered = record {
    op = chosen.call.op;
    pending = ap (option_and_then pending_of) is;
    rows = s.history.rows;
    returned = answer_from chosen;
    last = ap (λ (t : System). t.history.rows) respond_is;
    idle = ap (λ t. phase_at t name) respond_is ∙ ap (option_map phase_of) (get_same s.members.clients name (record { rules = rules; state = Idle }));
  }

  response_plan : (a b : ℕ) → Plan s name a b
  response_plan a b = record {
    steps = step.Respond name ∷ [];
    settles = answers s (ap is_ready ready);
    taken = (respond_taken, tt);
    few = omega arith;
    completes = answered;
  }

-- ---- a round, and the steps after it
joined : (s t : System) (name a b c d replica : ℕ) (others : List ℕ) → after_from s (round s name replica) ≡ t → AreAccepted s (round s name replica)
    → has_request (phase_at s name) ≡ true → candidates s (counted_at s name) ≡ replica ∷ others → pending_at t name ≡ pending_at s name → suc (c + d) ≤ a + b → Plan t name c d → Plan s name a b
joined s t name a b c d replica others is first requests found same fewer plan =
    let few = plan.few in
    let done = plan.completes in
    record {
      steps = round s name replica ++ plan.steps;
      settles = asks s replica others plan.steps requests found (subst (λ u. AreSettleSteps name u plan.steps) (sym is) plan.settles);
      taken = (first.0, (first.1.0, (first.1.1.0, subst (λ u. AreAccepted u plan.steps) (sym is) plan.taken)));
      few = omega (arith, few, fewer);
      completes = record {
        op = done.op;
        pending = sym same ∙ done.pending;
        rows = done.rows;
        returned = done.returned;
        last = subst (λ u. (after_from u plan.steps).history.rows ≡ done.rows ++ Respond done.op done.returned ∷ []) (sym is) done.last;
        idle = subst (λ u. phase_at (after_from u plan.steps) name ≡ Some phase.Idle) (sym is) done.idle;
      };
    }

-- ---- who made the pending call
pub asking_row : (quorums : Quorums) (R : List Row) (tags : Tags) (name : ℕ) (asking : Asking) → StateSound quorums R tags name (Ask asking) → Pending R name asking.call
asking_row quorums R tags name asking (SoundAsking w n g h) = w

putting_row : (quorums : Quorums) (R : List Row) (tags : Tags) (name : ℕ) (chosen : Chosen) (counted : Replicas) → StateSound quorums R tags name (Put chosen counted) → Pending R name chosen.call
putting_row quorums R tags name chosen counted (SoundPutting w n g h) = w

pub made_by : (s : System) → IsSound s → (name : ℕ) (call : Call) → Pending s.history.rows name call → caller_of s.history.rows call.op ≡ Some name
made_by s sound name call w = caller_found s.history.rows sound.sound.recorded call.op call.key (record { place = w.place; client = name; action = call.action; is = w.is })

-- ---- a replica that handles a request stays up
pub up_after : (s : System) (replica : ℕ) (request : Request) (node : Node) → slice_get s.nodes replica ≡ Some node
    → (m : ℕ) → option_map_or (λ (n : Node). n.is_up) (slice_get (handled_nodes s replica request node) m) false ≡ is_up s m
up_after s replica request node is m =
    read_alike (λ o. option_map_or (λ (n : Node). n.is_up) o false) s.nodes replica node (record node { replica = replica_after node.replica request }) is refl m

-- the plans for systems that need fewer replicas
abbrev Further : System → ℕ → ℕ → ℕ → Type 0
Further s name a b = (t : System) → IsSound t → (c d : ℕ) → NeedsAt t name c d → suc (c + d) ≤ a + b → t.pool.sent + 2 * (c + d) ≤ t.pool.limit → Plan t name c d

module _ (keeps : StepsKeepSound) (s : System) (sound : IsSound s) (name a b : ℕ) (room : s.pool.sent + 2 * (a + b) ≤ s.pool.limit) (further : Further s name a b) where
  -- a round to a candidate, after which the call needs fewer replicas
  round_plan : (replica : ℕ) (others : List ℕ) (client : Client) (request : Request) (node : Node) (c d : ℕ) → MayRound s name replica client request node
      → candidates s (counted_by client) ≡ replica ∷ others
      → Needs (third_system s name replica client request node) (client_after client (reply_of node.replica request)).state c d → suc (c + d) ≤ a + b
      → Plan s name a b
  round_plan replica others client request node c d may found needs fewer =
      let t : System = third_system s name replica client request node in
      let reply : Reply = reply_of node.replica request in
      let is : after_from s (round s name replica) ≡ t = round_is s name replica client request node may in
      let here : map.get t.members.clients name ≡ Some (client_after client reply) = get_same s.members.clients name (client_after client reply) in
      let sent : t.pool.sent ≡ s.pool.sent + 1 + 1 = refl in
      let limit : t.pool.limit ≡ s.pool.limit = refl in
      let all : Plan t name c d =
      further t (subst IsSound is (keeps s (round s name replica) sound)) c d (record { client = client_after client reply; is = here; needs = needs }) fewer (omega (arith, room, fewer, sent, limit)) in
      joined s t name a b c d replica others is (round_taken s name replica client request node may) (asking_or_putting s name replica client request node may)
      (ap (λ o. candidates s (option_map_or counted_by o finite.empty)) may.is ∙ found)
      (ap (option_and_then pending_of) here ∙ heard_pending client.rules client.state reply ∙ sym (ap (option_and_then pending_of) may.is))
      fewer all

  asking_plan : (rules : Rules) (asking : Asking) → IsClient s name (record { rules = rules; state = Ask asking }) → Needs s (Ask asking) a b → Plan s name a b
  asking_plan rules asking is needs =
      let client : Client = record { rules = rules; state = Ask asking } in
      let waits : is_ask_quorum s.config.quorums asking.counted ≡ false = sound.waiting name client is in
      let (replica, others, found) = some_candidate (IsAskQuorum s.config.quorums) asking.counted (candidates s asking.counted) a (not_ask s.config.quorums asking.counted waits) needs.0 in
      let up : Candidate s asking.counted replica = candidate_first s asking.counted replica others found in
      let t : System = third_system s name replica client (query_of asking) up.node in
      let pair = pair_of up.node.replica.pairs asking.call.key in
      let less : Fewer t (reply_outcome rules (Ask asking) (Held asking.call.op up.node.replica.number pair.tag pair.value)).0 a b =
      subst (λ n. Fewer t (reply_outcome rules (Ask asking) (Held asking.call.op n pair.tag pair.value)).0 a b) (sym (sound.numbered replica up.node up.is))
      (fewer_asked s t.members t.nodes t.pool t.history (up_after s replica (query_of asking) up.node up.is) rules (ap (λ (r : Rules). r.quorums) (sound.ruled name client is))
      asking replica pair.tag pair.value others a b waits up found needs) in
      let fewer = less.fewer in
      let w = asking_row s.config.quorums s.history.rows (tags_of (held_in s.nodes)) name asking (sound.sound.states name (Ask asking) (record { rules = rules; is = is })) in
      let may : MayRound s name replica client (query_of asking) up.node = record { is = is; sends = refl; there = up.is; up = up.up; caller = made_by s sound name asking.call w; room = omega (arith, room, fewer) } in
      round_plan replica others client (query_of asking) up.node less.asked less.kept may found less.needs less.fewer

  putting_plan : (rules : Rules) (chosen : Chosen) (counted : Replicas) → IsClient s name (record { rules = rules; state = Put chosen counted }) → Needs s (Put chosen counted) a b → Plan s name a b
  putting_plan rules chosen counted is needs =
      let client : Client = record { rules = rules; state = Put chosen counted } in
      let waits : is_put_quorum s.config.quorums counted ≡ false = sound.waiting name client is in
      let (replica, others, found) = some_candidate (IsPutQuorum s.config.quorums) counted (candidates s counted) b (not_put s.config.quorums counted waits) needs.1 in
      let up : Candidate s counted replica = candidate_first s counted replica others found in
      let t : System = third_system s name replica client (put_of chosen) up.node in
      let less : Fewer t (reply_outcome rules (Put chosen counted) (Kept chosen.call.op up.node.replica.number)).0 a b =
      subst (λ n. Fewer t (reply_outcome rules (Put chosen counted) (Kept chosen.call.op n)).0 a b) (sym (sound.numbered replica up.node up.is))
      (fewer_kept s t.members t.nodes t.pool t.history (up_after s replica (put_of chosen) up.node up.is) rules (ap (λ (r : Rules). r.quorums) (sound.ruled name client is))
      chosen counted replica others a b waits up found needs) in
      let fewer = less.fewer in
      let w = putting_row s.config.quorums s.history.rows (tags_of (held_in s.nodes)) name chosen counted (sound.sound.states name (Put chosen counted) (record { rules = rules; is = is })) in
      let may : MayRound s name replica client (put_of chosen) up.node = record { is = is; sends = refl; there = up.is; up = up.up; caller = made_by s sound name chosen.call w; room = omega (arith, room, fewer) } in
      round_plan replica others client (put_of chosen) up.node less.asked less.kept may found less.needs less.fewer

  plan_by : (rules : Rules) (state : State) → IsClient s name (record { rules = rules; state = state }) → Needs s state a b → Plan s name a b
  plan_by rules (Ask asking) is needs = asking_plan rules asking is needs
  plan_by rules (Put chosen counted) is needs = putting_plan rules chosen counted is needs
  plan_by rules (Ready chosen) is needs = response_plan s name rules chosen is a b
  plan_by rules Idle is needs = absurd needs
  plan_by rules Stopped is needs = absurd needs

plan_within : StepsKeepSound → (n : ℕ) (s : System) → IsSound s → (name a b : ℕ) → NeedsAt s name a b → a + b ≤ n → s.pool.sent + 2 * (a + b) ≤ s.pool.limit → Plan s name a b
plan_within keeps zero s sound name a b needs within room =
    plan_by keeps s sound name a b room (λ t good c d more fewer left. absurd (omega (arith, fewer, within))) needs.client.rules needs.client.state needs.is needs.needs
plan_within keeps (suc n) s sound name a b needs within room =
    plan_by keeps s sound name a b room (λ t good c d more fewer left. plan_within keeps n t good name c d more (omega (arith, fewer, within)) left) needs.client.rules needs.client.state needs.is needs.needs

-- where a call can be completed, there are steps that do
pub plan_of : StepsKeepSound → (s : System) → IsSound s → (name : ℕ) (may : MaySettle s name) → Plan s name may.room.asked may.room.kept
plan_of keeps s sound name may = plan_within keeps (may.room.asked + may.room.kept) s sound name may.room.asked may.room.kept may.room.needs (omega arith) may.room.left

pub within_of : (s : System) (name a b count : ℕ) → NeedsAt s name a b → count ≤ 3 * (a + b) + 1 → IsWithin s name count
within_of s name a b count needs few c d other =
    let (first, second) = needs_once s name a b c d needs other in
    omega (arith, first, second, few)

-- ---- no others do
pub ready_or_asking : (p : Option Phase) → is_ready p ≡ true → has_request p ≡ true → ⊥
ready_or_asking None r h = cc
ready_or_asking (Some phase.Idle) r h = cc
ready_or_asking (Some phase.Ask) r h = cc
ready_or_asking (Some phase.Put) r h = cc
ready_or_asking (Some phase.Ready) r h = cc
ready_or_asking (Some phase.Stopped) r h = cc

pub steps_once : (name : ℕ) (s : System) (steps other : List Step) → AreSettleSteps name s steps → AreSettleSteps name s other → steps ≡ other
steps_once name s steps other (answers t r) (answers u q) = refl
steps_once name s steps other (answers t r) (asks u replica others rest h e more) = absurd (ready_or_asking (phase_at s name) r h)
steps_once name s steps other (asks t replica others rest h e more) (answers u r) = absurd (ready_or_asking (phase_at s name) r h)
steps_once name s steps other (asks t replica others rest h e more) (asks u replica' others' rest' h' e' more') =
    let same : replica ≡ replica' = cc in
    let tails : rest ≡ rest' = steps_once name (after_from s (round s name replica)) rest rest' more (subst (λ n. AreSettleSteps name (after_from s (round s name n)) rest') (sym same) more') in
    ap (λ n. round s name n ++ rest) same ∙ ap (λ xs. round s name replica' ++ xs) tails
