-- How few steps are taken: with majorities, and by a short read whose replies agree.
use Rattle.std.proofs.Common.{◌≡◌, ℕ, zero, suc, ◌+◌, ◌*◌, ◌<◌, ◌≤◌, Bool, true, false, cond, List, [], ◌∷◌, length, take, Some, Result, Ok, Err, slice_get, refl, sym, ◌∙◌, ap, subst, arith, leb-true}
use Rattle.std.specs.FinSet as finite
use Rattle.std.specs.Option.{option_map_or}
use Rattle.std.specs.Prelude.{IfOk}
use Rattle.quorum.specs.Quorums.{Quorums, IsAskQuorum, is_ask_quorum, votes_of}
use Rattle.quorum.specs.Sets.{Replicas}
use Rattle.replica.specs.Pairs.{no_pair, pair_of}
use Rattle.replica.specs.declared.pairs.Pair.{Pair}
use Rattle.replica.specs.Replicas.{replica_after, reply_of}
use Rattle.replica.specs.declared.replies.Reply.TheVariants.{Held}
use Rattle.client_phases.specs.Asking.{Asking, asking_with, is_agreed, query_of}
use Rattle.client_phases.specs.Calls.{Chosen, pair_to_put}
use Rattle.client_phases.specs.Clients.{client_after, counted_by}
use Rattle.client_phases.specs.States.{asking_outcome, reply_outcome}
use Rattle.client_phases.specs.declared.clients.Client.{Client}
use Rattle.client_phases.specs.declared.outcomes.Taken.{Taken}
use Rattle.client_phases.specs.declared.outcomes.Taken.TheVariants.{Counted, Noted, Agreed}
use Rattle.client_phases.specs.declared.rules.Rules.{Rules}
use Rattle.client_phases.specs.declared.states.State.{State}
use Rattle.client_phases.specs.declared.states.State.TheVariants.{Ask, Put, Ready}
use Rattle.world_steps.specs.Sound.{tags_of}
use Rattle.world_steps.specs.Moves.{IsClient}
use Rattle.world_steps.specs.Refusals.{is_ready, phase_at}
use Rattle.world_steps.specs.Runs.{after_from}
use Rattle.world_steps.specs.SoundSystems.{IsSound, held_in}
use Rattle.world_steps.specs.declared.nodes.Node.{Node}
use Rattle.world_steps.specs.declared.step.Step.{Step}
use Rattle.world_steps.specs.declared.system.System.{System}
use Rattle.network.proofs.Lookups.{get_same}
use Rattle.world_steps.proofs.ReplicaSound.{read_alike}
use Rattle.world_steps.proofs.Passed.{phase_is}
use Rattle.world_settle.specs.Agreeing.{RepliesAgree, asking_by, pair_at}
use Rattle.world_settle.specs.Refusing.{IsLeastCount, MaySettle, Needs, NeedsAt}
use Rattle.world_settle.specs.Settling.{AreSettleSteps, candidates, round}
use Rattle.world_settle.specs.Settling.AreSettleSteps.{answers, asks}
use Rattle.world_settle.specs.SettleAnswers.{IsWithinForMajorities, IsWithinIfAgreed, SettlesBy}
use Rattle.world_settle.specs.declared.errors.SettleError.{SettleError}
use Rattle.world_settle.proofs.Brings.{majorities_most}
use Rattle.world_settle.proofs.CandidateLemmas.{Candidate, candidate_first, candidates_rest}
use Rattle.world_settle.proofs.LeastCounts.{fewer_needed, least_once, some_candidate}
use Rattle.world_settle.specs.StepsLeft.{AreLeftAfter}
use Rattle.world_settle.proofs.Forward.{ahead, round_more, settled_within}
use Rattle.world_settle.proofs.Plans.{StepsKeepSound, asking_row, made_by, ready_or_asking, up_after}
use Rattle.world_settle.proofs.Replies.{held_counts, not_ask}
use Rattle.world_settle.proofs.Rounds.{MayRound, asking_or_putting, handled_nodes, round_is, third_system}

-- ---- a query leaves each pair as it was
pairs_stay : (s : System) (replica : ℕ) (asking : Asking) (node : Node) → slice_get s.nodes replica ≡ Some node → (m : ℕ) (key : List ℕ)
    → option_map_or (λ (n : Node). pair_of n.replica.pairs key) (slice_get (handled_nodes s replica (query_of asking) node) m) no_pair ≡ pair_at s m key
pairs_stay s replica asking node is m key =
    let pair : Node → Pair = λ n. pair_of n.replica.pairs key in
    read_alike (λ o. option_map_or pair o no_pair) s.nodes replica node (record node { replica = replica_after node.replica (query_of asking) }) is refl m

same_asking : (s t : System) → ((m : ℕ) (key : List ℕ) → pair_at t m key ≡ pair_at s m key) → (asking : Asking) (replicas : List ℕ) → asking_by t asking replicas ≡ asking_by s asking replicas
same_asking s t same asking [] = refl
same_asking s t same asking (r ∷ rs) =
    ap (λ p. asking_by t (asking_with asking r p) rs) (same r asking.call.key) ∙ same_asking s t same (asking_with asking r (pair_at s r asking.call.key)) rs

-- ---- what is left after a round
abbrev Few : System → ℕ → ℕ → Type 0
Few s name a = (steps : List Step) → AreSettleSteps name s steps → length steps ≤ 3 * a + 1

-- the same of systems where fewer replicas are asked
abbrev Further : ℕ → Type 0
Further a = (t : System) → IsSound t → (name c : ℕ) → RepliesAgree t name c → suc c ≤ a → t.pool.sent + 2 * c ≤ t.pool.limit → Few t name c

one_answer : (name : ℕ) (t : System) (steps : List Step) → is_ready (phase_at t name) ≡ true → AreSettleSteps name t steps → length steps ≡ 1
one_answer name t steps ready (answers u r) = refl
one_answer name t steps ready (asks u replica others rest h e more) = absurd (ready_or_asking (phase_at t name) ready h)

-- where a quorum is counted no more replicas are asked
none_more : (Q : Replicas → Type 0) (set : Replicas) (cs : List ℕ) (m : ℕ) → Q set → IsLeastCount Q set cs m → m ≡ 0
none_more Q set cs zero full is = refl
none_more Q set cs (suc m) full is = absurd (is.least 0 (omega arith) full)

is_full : (quorums : Quorums) (set : Replicas) → is_ask_quorum quorums set ≡ true → IsAskQuorum quorums set
is_full quorums set e = leb-true quorums.ask (votes_of quorums.votes set) e

agreed_now : (rules : Rules) (t : System) (asking : Asking) (m : ℕ) → m ≡ 0 → is_agreed rules (asking_by t asking (take m (candidates t asking.counted))) ≡ true → is_agreed rules asking ≡ true
agreed_now rules t asking m e agreed = subst (λ k. is_agreed rules (asking_by t asking (take k (candidates t asking.counted))) ≡ true) e agreed

module _ (t : System) (sound : IsSound t) (name a m : ℕ) (rules : Rules) (ruled : rules.quorums ≡ t.config.quorums) (asking : Asking) (found put : Chosen) (some other : Taken)
    (least : IsLeastCount (IsAskQuorum t.config.quorums) asking.counted (candidates t asking.counted) m)
    (agreed : is_agreed rules (asking_by t asking (take m (candidates t asking.counted))) ≡ true)
    (further : Further a) (fewer : suc m ≤ a) (room : t.pool.sent + 2 * m ≤ t.pool.limit) where
  behind : (x y : Bool) → is_ask_quorum rules.quorums asking.counted ≡ x → is_agreed rules asking ≡ y
      → IsClient t name (record { rules = rules; state = (cond {A = State × Taken} x (cond {A = State × Taken} y (Ready found, some) (Put put finite.empty, other)) (Ask asking, Counted)).0 })
      → Few t name m
  behind false y full same is = further t sound name m (record { rules = rules; asking = asking; is = is; asks = least; agreed = agreed }) fewer room
  behind true true full same is = λ steps settles.
      let one = one_answer name t steps (ap is_ready (phase_is t name (record { rules = rules; state = Ready found }) is)) settles in
      omega (arith, one)
  behind true false full same is =
      let none : m ≡ 0 = none_more (IsAskQuorum t.config.quorums) asking.counted (candidates t asking.counted) m (is_full t.config.quorums asking.counted (subst (λ q. is_ask_quorum q asking.counted ≡ true) ruled full)) least in
      let already : is_agreed rules asking ≡ true = agreed_now rules t asking m none agreed in
      absurd cc

-- ---- a round
rounds : StepsKeepSound → (s : System) → IsSound s → (name a : ℕ) (agree : RepliesAgree s name a) → s.pool.sent + 2 * a ≤ s.pool.limit → Further a → Few s name a
rounds keeps s sound name a agree room further steps settles =
    let rules : Rules = agree.rules in
    let asking : Asking = agree.asking in
    let key = asking.call.key in
    let client : Client = record { rules = rules; state = Ask asking } in
    let waits : is_ask_quorum s.config.quorums asking.counted ≡ false = sound.waiting name client agree.is in
    let (replica, others, found) = some_candidate (IsAskQuorum s.config.quorums) asking.counted (candidates s asking.counted) a (not_ask s.config.quorums asking.counted waits) agree.asks in
    let (m, is, rest) = fewer_needed (IsAskQuorum s.config.quorums) asking.counted replica others a (not_ask s.config.quorums asking.counted waits)
    (subst (λ cs. IsLeastCount (IsAskQuorum s.config.quorums) asking.counted cs a) found agree.asks) in
    let up : Candidate s asking.counted replica = candidate_first s asking.counted replica others found in
    let node : Node = up.node in
    let w = asking_row s.config.quorums s.history.rows (tags_of (held_in s.nodes)) name asking (sound.sound.states name (Ask asking) (record { rules = rules; is = agree.is })) in
    let may : MayRound s name replica client (query_of asking) node =
    record { is = agree.is; sends = refl; there = up.is; up = up.up; caller = made_by s sound name asking.call w; room = omega (arith, room, is) } in
    let t : System = third_system s name replica client (query_of asking) node in
    let after : after_from s (round s name replica) ≡ t = round_is s name replica client (query_of asking) node may in
    let pair : Pair = pair_of node.replica.pairs key in
    let more : Asking = asking_with asking replica pair in
    let told : pair_at s replica key ≡ pair = ap (λ o. option_map_or (λ (n : Node). pair_of n.replica.pairs key) o no_pair) up.is in
    let quorums : rules.quorums ≡ s.config.quorums = ap (λ (r : Rules). r.quorums) (sound.ruled name client agree.is) in
    let left : candidates t more.counted ≡ others = candidates_rest s t asking.counted replica others (up_after s replica (query_of asking) node up.is) refl found in
    let here : IsClient t name (record { rules = rules; state = (asking_outcome rules more).0 }) =
    get_same s.members.clients name (client_after client (reply_of node.replica (query_of asking)))
    ∙ ap (λ n. Some (let c : Client = record { rules = rules; state = (reply_outcome rules (Ask asking) (Held asking.call.op n pair.tag pair.value)).0 } in c)) (sound.numbered replica node up.is)
    ∙ ap (λ (x : State × Taken). Some (let c : Client = record { rules = rules; state = x.0 } in c))
    (held_counts rules asking replica pair.tag pair.value up.lacked (subst (λ (q : Quorums). replica < length q.votes) (sym quorums) up.below)) in
    let agreed : is_agreed rules (asking_by t more (take m (candidates t more.counted))) ≡ true =
    ap (λ cs. is_agreed rules (asking_by t more (take m cs))) left
    ∙ ap (is_agreed rules) (same_asking s t (pairs_stay s replica asking node up.is) more (take m others))
    ∙ ap (λ p. is_agreed rules (asking_by s (asking_with asking replica p) (take m others))) (sym told)
    ∙ sym (ap (λ cs. is_agreed rules (asking_by s asking (take a cs))) found ∙ ap (λ k. is_agreed rules (asking_by s asking (take k (replica ∷ others)))) is)
    ∙ agree.agreed in
    let going : AreLeftAfter name s (round s name replica) steps =
    ahead name s replica others steps (asking_or_putting s name replica client (query_of asking) node may)
    (ap (λ o. candidates s (option_map_or counted_by o finite.empty)) agree.is ∙ found) settles in
    let sent : t.pool.sent ≡ s.pool.sent + 1 + 1 = refl in
    let limit : t.pool.limit ≡ s.pool.limit = refl in
    let few : Few t name m =
    behind t (subst IsSound after (keeps s (round s name replica) sound)) name a m rules quorums more
    (record { call = asking.call; pair = more.best }) (record { call = asking.call; pair = pair_to_put rules.name asking.call.action more.best })
    (Agreed more.best.tag) (Noted (pair_to_put rules.name asking.call.action more.best).tag)
    (subst (λ cs. IsLeastCount (IsAskQuorum s.config.quorums) more.counted cs m) (sym left) rest) agreed further (omega (arith, is)) (omega (arith, room, is, sent, limit))
    (is_ask_quorum rules.quorums more.counted) (is_agreed rules more) refl refl here in
    let fewer = few going.others (subst (λ u. AreSettleSteps name u going.others) after going.onward) in
    let long = round_more name s replica steps going in
    omega (arith, fewer, long, is)

agreed_within : StepsKeepSound → (n : ℕ) (s : System) → IsSound s → (name a : ℕ) → RepliesAgree s name a → a ≤ n → s.pool.sent + 2 * a ≤ s.pool.limit → Few s name a
agreed_within keeps zero s sound name a agree within room = rounds keeps s sound name a agree room (λ t good other c more fewer left. absurd (omega (arith, fewer, within)))
agreed_within keeps (suc n) s sound name a agree within room =
    rounds keeps s sound name a agree room (λ t good other c more fewer left. agreed_within keeps n t good other c more (omega (arith, fewer, within)) left)

-- what the call needs is what the read still asks
needs_asked : (s : System) (name a c d : ℕ) → RepliesAgree s name a → NeedsAt s name c d → a ≡ c
needs_asked s name a c d agree needs =
    let client : Client = record { rules = agree.rules; state = Ask agree.asking } in
    let same : needs.client ≡ client = let first = needs.is in let second = agree.is in cc in
    let needed : Needs s (Ask agree.asking) c d = subst (λ (x : Client). Needs s x.state c d) same needs.needs in
    least_once (IsAskQuorum s.config.quorums) agree.asking.counted (candidates s agree.asking.counted) a c agree.asks needed.0

pub short_steps : StepsKeepSound → (s : System) (name a : ℕ) (steps : List Step) → IsSound s → MaySettle s name → RepliesAgree s name a → AreSettleSteps name s steps → length steps ≤ 3 * a + 1
short_steps keeps s name a steps sound may agree settles =
    let same = needs_asked s name a may.room.asked may.room.kept agree may.room.needs in
    let left = may.room.left in
    agreed_within keeps a s sound name a agree (omega arith) (omega (arith, same, left)) steps settles

-- ---- what is answered
pub settled_agreed : StepsKeepSound → (old : System) (name : ℕ) (result : Result ℕ SettleError) (new : System) → IsSound old → SettlesBy old name result new → IfOk result (λ count. IsWithinIfAgreed old name count)
settled_agreed keeps old name (Ok count) new sound h = λ a agree.
    let short = short_steps keeps old name a h.steps sound h.may agree h.settles in
    let counted = h.counted in
    omega (arith, short, counted)
settled_agreed keeps old name (Err why) new sound h = tt

pub settled_majorities : StepsKeepSound → (old : System) (name : ℕ) (result : Result ℕ SettleError) (new : System) → IsSound old → SettlesBy old name result new → IfOk result (λ count. IsWithinForMajorities old count)
settled_majorities keeps old name (Ok count) new sound h = λ n is.
    let needs = h.may.room.needs in
    let within = settled_within keeps old name (Ok count) new sound h h.may.room.asked h.may.room.kept needs in
    let most = majorities_most old sound.sound.lawful n name h.may.room.asked h.may.room.kept is needs in
    omega (arith, within, most)
settled_majorities keeps old name (Err why) new sound h = tt
