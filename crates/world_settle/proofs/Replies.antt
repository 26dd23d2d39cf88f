-- What a round makes of the client, and how many replicas its call needs then.
use Rattle.std.proofs.Common.{◌≡◌, ℕ, suc, ◌+◌, ◌<◌, ◌≤◌, Bool, true, false, cond, not, ◌&&◌, nat_lt, List, ◌∷◌, Option, length, refl, sym, ◌∙◌, ap, subst, arith, leb-false}
use Rattle.std.proofs.lemmas.Bool.{eq-eqb, lt-ltb}
use Rattle.std.specs.FinSet as finite
use Rattle.tag.specs.Tags.{Tag}
use Rattle.quorum.specs.Sets.{Replicas}
use Rattle.quorum.specs.Quorums.{Quorums, IsAskQuorum, IsPutQuorum, is_ask_quorum, is_put_quorum, votes_of}
use Rattle.replica.specs.declared.replies.Reply.{Reply}
use Rattle.replica.specs.declared.replies.Reply.TheVariants.{Held, Kept}
use Rattle.client_phases.specs.Asking.{Asking, asking_with, counts, is_agreed}
use Rattle.client_phases.specs.Calls.{Chosen, pair_to_put}
use Rattle.client_phases.specs.declared.calls.Call.{Call}
use Rattle.client_phases.specs.Clients.{pending_of}
use Rattle.client_phases.specs.States.{asking_outcome, reply_outcome, putting_outcome}
use Rattle.client_phases.specs.declared.outcomes.Taken.{Taken}
use Rattle.client_phases.specs.declared.outcomes.Taken.TheVariants.{Stale, Counted, Noted, Agreed}
use Rattle.client_phases.specs.declared.outcomes.Taken.TheVariants as outcome
use Rattle.client_phases.specs.declared.rules.Rules.{Rules}
use Rattle.client_phases.specs.declared.states.State.{State}
use Rattle.client_phases.specs.declared.states.State.TheVariants.{Idle, Ask, Put, Ready, Stopped}
use Rattle.network.specs.Pools.{Pool}
use Rattle.recorder.specs.Histories.{Recorded}
use Rattle.world_steps.specs.Clients.{Members}
use Rattle.world_steps.specs.declared.nodes.Node.{Node}
use Rattle.world_steps.specs.declared.system.System.{System}
use Rattle.world_settle.specs.Settling.{candidates}
use Rattle.world_settle.specs.Refusing.{IsLeastCount, Needs}
use Rattle.world_settle.proofs.CandidateLemmas.{Candidate, SameUp, candidates_rest, candidates_same}
use Rattle.world_settle.proofs.LeastCounts.{fewer_needed}

-- ---- a reply from a replica that isn't counted counts
counts_now : (rules : Rules) (call : Call) (counted : Replicas) (replica : ℕ) → finite.contains counted replica ≡ false → replica < length rules.quorums.votes → counts rules call counted call.op replica ≡ true
counts_now rules call counted replica lacked below =
    ap (λ b. b && (not (finite.contains counted replica) && nat_lt replica (length rules.quorums.votes))) (eq-eqb call.op.0 call.op.0 refl)
    ∙ ap (λ b. not b && nat_lt replica (length rules.quorums.votes)) lacked
    ∙ lt-ltb replica (length rules.quorums.votes) below

pub held_counts : (rules : Rules) (asking : Asking) (replica : ℕ) (tag : Tag) (value : Option (List ℕ)) → finite.contains asking.counted replica ≡ false → replica < length rules.quorums.votes
    → reply_outcome rules (Ask asking) (Held asking.call.op replica tag value) ≡ asking_outcome rules (asking_with asking replica (record { tag = tag; value = value }))
held_counts rules asking replica tag value lacked below =
    ap (λ b. cond {A = State × Taken} b (asking_outcome rules (asking_with asking replica (record { tag = tag; value = value }))) (Ask asking, Stale)) (counts_now rules asking.call asking.counted replica lacked below)

kept_counts : (rules : Rules) (chosen : Chosen) (counted : Replicas) (replica : ℕ) → finite.contains counted replica ≡ false → replica < length rules.quorums.votes
    → reply_outcome rules (Put chosen counted) (Kept chosen.call.op replica) ≡ putting_outcome rules chosen (finite.insert counted replica)
kept_counts rules chosen counted replica lacked below =
    ap (λ b. cond {A = State × Taken} b (putting_outcome rules chosen (finite.insert counted replica)) (Put chosen counted, Stale)) (counts_now rules chosen.call counted replica lacked below)

-- ---- what isn't a quorum yet
pub not_ask : (quorums : Quorums) (set : Replicas) → is_ask_quorum quorums set ≡ false → IsAskQuorum quorums set → ⊥
not_ask quorums set e q = let less = leb-false quorums.ask (votes_of quorums.votes set) e in omega (arith, less, q)

pub not_put : (quorums : Quorums) (set : Replicas) → is_put_quorum quorums set ≡ false → IsPutQuorum quorums set → ⊥
not_put quorums set e q = let less = leb-false quorums.put (votes_of quorums.votes set) e in omega (arith, less, q)

-- ---- what the call needs after a round
pub record Fewer (t : System) (state : State) (a b : ℕ) : Type 0 where
  pub asked : ℕ
  pub kept : ℕ
  pub needs : Needs t state asked kept
  pub fewer : suc (asked + kept) ≤ a + b

-- the system of that configuration with other parts
abbrev pub with_parts : System → Members → List Node → Pool → Recorded → System
with_parts s members nodes pool history = record s { members = members; nodes = nodes; pool = pool; history = history }

ask_by : (t : System) (further : Asking) (found put : Chosen) (m b : ℕ) (x y : Bool) (some other : Taken)
    → IsLeastCount (IsAskQuorum t.config.quorums) further.counted (candidates t further.counted) m
    → IsLeastCount (IsPutQuorum t.config.quorums) finite.empty (candidates t finite.empty) b
    → Fewer t (cond {A = State × Taken} x (cond {A = State × Taken} y (Ready found, some) (Put put finite.empty, other)) (Ask further, Counted)).0 (suc m) b
ask_by t further found put m b true true some other p q = record { asked = 0; kept = 0; needs = (refl, refl); fewer = omega arith }
ask_by t further found put m b true false some other p q = record { asked = 0; kept = b; needs = (refl, q); fewer = omega arith }
ask_by t further found put m b false y some other p q = record { asked = m; kept = b; needs = (p, q); fewer = omega arith }

put_by : (t : System) (chosen : Chosen) (counted : Replicas) (m : ℕ) (x : Bool) → IsLeastCount (IsPutQuorum t.config.quorums) counted (candidates t counted) m
    → Fewer t (cond {A = State × Taken} x (Ready chosen, outcome.Ready) (Put chosen counted, Counted)).0 0 (suc m)
put_by t chosen counted m true p = record { asked = 0; kept = 0; needs = (refl, refl); fewer = omega arith }
put_by t chosen counted m false p = record { asked = 0; kept = m; needs = (refl, p); fewer = omega arith }

module _ (s : System) (members : Members) (nodes : List Node) (pool : Pool) (history : Recorded) (ups : SameUp s (with_parts s members nodes pool history)) (rules : Rules) (ruled : rules.quorums ≡ s.config.quorums) where
  below_all : (replica : ℕ) → replica < length s.config.quorums.votes → replica < length rules.quorums.votes
  below_all replica less = subst (λ (q : Quorums). replica < length q.votes) (sym ruled) less

  pub fewer_asked : (asking : Asking) (replica : ℕ) (tag : Tag) (value : Option (List ℕ)) (others : List ℕ) (a b : ℕ)
      → is_ask_quorum s.config.quorums asking.counted ≡ false → Candidate s asking.counted replica → candidates s asking.counted ≡ replica ∷ others → Needs s (Ask asking) a b
      → Fewer (with_parts s members nodes pool history) (reply_outcome rules (Ask asking) (Held asking.call.op replica tag value)).0 a b
  fewer_asked asking replica tag value others a b waits found e needs =
      let t : System = with_parts s members nodes pool history in
      let further : Asking = asking_with asking replica (record { tag = tag; value = value }) in
      let (m, is, rest) = fewer_needed (IsAskQuorum s.config.quorums) asking.counted replica others a (not_ask s.config.quorums asking.counted waits)
      (subst (λ cs. IsLeastCount (IsAskQuorum s.config.quorums) asking.counted cs a) e needs.0) in
      subst (λ n. Fewer t (reply_outcome rules (Ask asking) (Held asking.call.op replica tag value)).0 n b) (sym is)
      (subst (λ (x : State × Taken). Fewer t x.0 (suc m) b) (sym (held_counts rules asking replica tag value found.lacked (below_all replica found.below)))
      (ask_by t further (record { call = asking.call; pair = further.best }) (record { call = asking.call; pair = pair_to_put rules.name asking.call.action further.best }) m b
      (is_ask_quorum rules.quorums further.counted) (is_agreed rules further) (Agreed further.best.tag) (Noted (pair_to_put rules.name asking.call.action further.best).tag)
      (subst (λ cs. IsLeastCount (IsAskQuorum s.config.quorums) further.counted cs m) (sym (candidates_rest s t asking.counted replica others ups refl e)) rest)
      (subst (λ cs. IsLeastCount (IsPutQuorum s.config.quorums) finite.empty cs b) (sym (candidates_same s t finite.empty ups refl)) needs.1)))

  pub fewer_kept : (chosen : Chosen) (counted : Replicas) (replica : ℕ) (others : List ℕ) (a b : ℕ)
      → is_put_quorum s.config.quorums counted ≡ false → Candidate s counted replica → candidates s counted ≡ replica ∷ others → Needs s (Put chosen counted) a b
      → Fewer (with_parts s members nodes pool history) (reply_outcome rules (Put chosen counted) (Kept chosen.call.op replica)).0 a b
  fewer_kept chosen counted replica others a b waits found e needs =
      let t : System = with_parts s members nodes pool history in
      let (m, is, rest) = fewer_needed (IsPutQuorum s.config.quorums) counted replica others b (not_put s.config.quorums counted waits)
      (subst (λ cs. IsLeastCount (IsPutQuorum s.config.quorums) counted cs b) e needs.1) in
      let goal : ℕ → ℕ → Type 0 = λ c d. Fewer t (reply_outcome rules (Put chosen counted) (Kept chosen.call.op replica)).0 c d in
      subst (λ c. goal c b) (sym needs.0)
      (subst (λ d. goal 0 d) (sym is)
      (subst (λ (x : State × Taken). Fewer t x.0 0 (suc m)) (sym (kept_counts rules chosen counted replica found.lacked (below_all replica found.below)))
      (put_by t chosen (finite.insert counted replica) m (is_put_quorum rules.quorums (finite.insert counted replica))
      (subst (λ cs. IsLeastCount (IsPutQuorum s.config.quorums) (finite.insert counted replica) cs m) (sym (candidates_rest s t counted replica others ups refl e)) rest))))

-- ---- the call stays the same
pick : (rules : Rules) (state : State) (b : Bool) (x y : State × Taken) → pending_of (record { rules = rules; state = x.0 }) ≡ pending_of (record { rules = rules; state = state })
    → pending_of (record { rules = rules; state = y.0 }) ≡ pending_of (record { rules = rules; state = state })
    → pending_of (record { rules = rules; state = (cond {A = State × Taken} b x y).0 }) ≡ pending_of (record { rules = rules; state = state })
pick rules state true x y p q = p
pick rules state false x y p q = q

pub heard_pending : (rules : Rules) (state : State) (reply : Reply) → pending_of (record { rules = rules; state = (reply_outcome rules state reply).0 }) ≡ pending_of (record { rules = rules; state = state })
heard_pending rules (Ask asking) (Held op replica tag value) =
    let further : Asking = asking_with asking replica (record { tag = tag; value = value }) in
    pick rules (Ask asking) (counts rules asking.call asking.counted op replica) (asking_outcome rules further) (Ask asking, Stale)
    (pick rules (Ask asking) (is_ask_quorum rules.quorums further.counted) _ (Ask further, Counted) (pick rules (Ask asking) (is_agreed rules further) _ _ refl refl) refl)
    refl
heard_pending rules (Put chosen counted) (Kept op replica) =
    pick rules (Put chosen counted) (counts rules chosen.call counted op replica) (putting_outcome rules chosen (finite.insert counted replica)) (Put chosen counted, Stale)
    (pick rules (Put chosen counted) (is_put_quorum rules.quorums (finite.insert counted replica)) _ _ refl refl)
    refl
heard_pending rules (Ask asking) (Kept op replica) = refl
heard_pending rules (Put chosen counted) (Held op replica tag value) = refl
heard_pending rules Idle reply = refl
heard_pending rules (Ready chosen) reply = refl
heard_pending rules Stopped reply = refl
