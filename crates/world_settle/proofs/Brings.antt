-- Each candidate brings at least one vote, so that a quorum needs no more of them than it has votes.
use Rattle.std.proofs.Common.{◌≡◌, ℕ, zero, suc, ◌+◌, ◌*◌, ◌/◌, ◌≤◌, List, [], ◌∷◌, take, length, refl, ap, arith}
use Rattle.std.proofs.lemmas.List.Elements.{All-get_or}
use Rattle.std.specs.FinSet as finite
use Rattle.quorum.proofs.MoreVotes.{votes_of-insert}
use Rattle.quorum.specs.Sets.{Replicas}
use Rattle.quorum.specs.Quorums.{Quorums, IsLawful, majority_of, votes_of}
use Rattle.client_phases.specs.declared.states.State.{State}
use Rattle.client_phases.specs.declared.states.State.TheVariants.{Idle, Ask, Put, Ready, Stopped}
use Rattle.world_steps.specs.declared.system.System.{System}
use Rattle.world_settle.specs.Settling.{candidates, with_all}
use Rattle.world_settle.specs.Refusing.{IsLeastCount, Needs, NeedsAt}
use Rattle.world_settle.proofs.CandidateLemmas.{Candidate, candidate_first}
use Rattle.world_settle.proofs.Counting.{rest_is}
use Rattle.world_settle.proofs.LeastCounts.{least_within}

module _ (s : System) (lawful : IsLawful s.config.quorums) where
  brings_one : (set : Replicas) (r : ℕ) → Candidate s set r → votes_of s.config.quorums.votes set + 1 ≤ votes_of s.config.quorums.votes (finite.insert set r)
  brings_one set r found =
      let more = votes_of-insert s.config.quorums.votes set r found.below found.lacked in
      let each = (All-get_or (λ v. (1 ≤ v) × (v ≤ 9)) s.config.quorums.votes r 0 found.below lawful.each_votes).0 in
      omega (arith, more, each)

  brings : (k : ℕ) (set : Replicas) (cs : List ℕ) → candidates s set ≡ cs → k ≤ length cs → votes_of s.config.quorums.votes set + k ≤ votes_of s.config.quorums.votes (with_all set (take k cs))
  brings zero set cs e within = omega arith
  brings (suc k) set [] e within = absurd (omega arith)
  brings (suc k) set (r ∷ others) e within =
      let one = brings_one set r (candidate_first s set r others e) in
      let rest = brings k (finite.insert set r) others (rest_is s set r others e) (omega arith) in
      omega (arith, one, rest)

  most_needed : (quorum : ℕ) (set : Replicas) (count : ℕ) → IsLeastCount (λ x. quorum ≤ votes_of s.config.quorums.votes x) set (candidates s set) count → count ≤ quorum
  most_needed quorum set zero h = omega arith
  most_needed quorum set (suc k) h =
      let within = least_within (λ x. quorum ≤ votes_of s.config.quorums.votes x) set (candidates s set) (suc k) h in
      let many = brings k set (candidates s set) refl (omega (arith, within)) in
      below k quorum (votes_of s.config.quorums.votes (with_all set (take k (candidates s set)))) (votes_of s.config.quorums.votes set) many (h.least k (omega arith))
    where
      below : (k quorum votes own : ℕ) → own + k ≤ votes → (quorum ≤ votes → ⊥) → suc k ≤ quorum
      below k quorum votes own many low = omega arith

  needs_by : (state : State) (a b : ℕ) → Needs s state a b → (a ≤ s.config.quorums.ask) × (b ≤ s.config.quorums.put)
  needs_by (Ask asking) a b n = (most_needed s.config.quorums.ask asking.counted a n.0, most_needed s.config.quorums.put finite.empty b n.1)
  needs_by (Put chosen counted) a b n = let none = n.0 in (omega (arith, none), most_needed s.config.quorums.put counted b n.1)
  needs_by (Ready chosen) a b n = let none = n.0 in let nor = n.1 in (omega (arith, none), omega (arith, nor))
  needs_by Idle a b n = absurd n
  needs_by Stopped a b n = absurd n

  -- a call needs no more replicas than the quorums have votes
  pub needs_most : (name a b : ℕ) → NeedsAt s name a b → (a ≤ s.config.quorums.ask) × (b ≤ s.config.quorums.put)
  needs_most name a b needs = needs_by needs.client.state a b needs.needs

  -- with majorities of n replicas that is twice n / 2 + 1
  pub majorities_most : (n name a b : ℕ) → s.config.quorums ≡ majority_of n → NeedsAt s name a b → 3 * (a + b) + 1 ≤ 6 * (n / 2 + 1) + 1
  majorities_most n name a b is needs =
      let (first, second) = needs_most name a b needs in
      let ask : s.config.quorums.ask ≡ n / 2 + 1 = ap (λ (q : Quorums). q.ask) is in
      let put : s.config.quorums.put ≡ n / 2 + 1 = ap (λ (q : Quorums). q.put) is in
      omega (arith, first, second, ask, put)
