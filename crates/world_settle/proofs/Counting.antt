-- Counting the candidates that a set needs, one at a time.
use Rattle.std.proofs.Common.{◌≡◌, ℕ, zero, suc, ◌+◌, ◌<◌, ◌≤◌, List, [], ◌∷◌, ◌++◌, take, drop, length, refl, sym, ◌∙◌, ap, subst, arith, ◌⊎◌, inl, inr}
use Rattle.std.specs.FinSet as finite
use Rattle.quorum.specs.Sets.{Replicas}
use Rattle.quorum.specs.Quorums.{IsLawful, votes_of}
use Rattle.world_steps.specs.declared.system.System.{System}
use Rattle.world_settle.specs.Settling.{candidates, with_all}
use Rattle.world_settle.specs.Refusing.{IsLeastCount, replicas_up}
use Rattle.world_settle.proofs.CandidateLemmas.{candidates_rest}
use Rattle.world_settle.proofs.LeastCounts.{all_votes, few_candidates}

-- with its first candidate a set has one candidate less
pub rest_is : (s : System) (set : Replicas) (r : ℕ) (others : List ℕ) → candidates s set ≡ r ∷ others → candidates s (finite.insert set r) ≡ others
rest_is s set r others e = candidates_rest s s set r others (λ m. refl) refl e

pub up_more : (s : System) (set : Replicas) (r : ℕ) (others : List ℕ) → candidates s set ≡ r ∷ others → with_all set (candidates s set) ≡ replicas_up s
    → with_all (finite.insert set r) (candidates s (finite.insert set r)) ≡ replicas_up s
up_more s set r others e all = ap (with_all (finite.insert set r)) (rest_is s set r others e) ∙ sym (ap (with_all set) e) ∙ all

pub up_fewer : (s : System) (set : Replicas) (r : ℕ) (others : List ℕ) → candidates s set ≡ r ∷ others → length (candidates s (finite.insert set r)) < length (candidates s set)
up_fewer s set r others e =
    let new = ap length (rest_is s set r others e) in
    let old = ap length e in
    omega (arith, new, old)

pub up_all : (s : System) (set : Replicas) → candidates s set ≡ [] → with_all set (candidates s set) ≡ replicas_up s → set ≡ replicas_up s
up_all s set e all = sym (ap (with_all set) e) ∙ all

-- so many of the candidates came to the set, and fewer don't bring so many votes
pub record Counting (s : System) (counted set : Replicas) (votes count : ℕ) : Type 0 where
  pub members : set ≡ with_all counted (take count (candidates s counted))
  pub rest : candidates s set ≡ drop count (candidates s counted)
  pub few : count ≤ length (candidates s counted)
  pub least : (fewer : ℕ) → fewer < count → votes ≤ votes_of s.config.quorums.votes (with_all counted (take fewer (candidates s counted))) → ⊥

pub counting_none : (s : System) (counted : Replicas) (votes : ℕ) → Counting s counted counted votes 0
counting_none s counted votes = record { members = refl; rest = refl; few = omega arith; least = λ fewer less h. omega arith }

with_last : (set : Replicas) (xs : List ℕ) (r : ℕ) → with_all set (xs ++ r ∷ []) ≡ finite.insert (with_all set xs) r
with_last set [] r = refl
with_last set (x ∷ xs) r = with_last (finite.insert set x) xs r

record Split (xs : List ℕ) (count r : ℕ) (others : List ℕ) : Type 0 where
  pub front : take (suc count) xs ≡ take count xs ++ r ∷ []
  pub back : drop (suc count) xs ≡ others
  pub more : suc count ≤ length xs

split : (xs : List ℕ) (count r : ℕ) (others : List ℕ) → drop count xs ≡ r ∷ others → Split xs count r others
split [] zero r others e = absurd cc
split [] (suc count) r others e = absurd cc
split (x ∷ xs) zero r others e = let first : x ≡ r = cc in let rest : xs ≡ others = cc in record { front = ap (λ y. y ∷ []) first; back = rest; more = omega arith }
split (x ∷ xs) (suc count) r others e =
    let h = split xs count r others e in
    let more = h.more in
    record { front = ap (λ ys. x ∷ ys) h.front; back = h.back; more = omega (arith, more) }

last_or_less : (m n : ℕ) → m < suc n → (m ≡ n) ⊎ (m < n)
last_or_less m n h = grind arith

counting_suc : (s : System) (counted set : Replicas) (votes count r : ℕ) (others : List ℕ) → Counting s counted set votes count → candidates s set ≡ r ∷ others
    → votes_of s.config.quorums.votes set < votes → Counting s counted (finite.insert set r) votes (suc count)
counting_suc s counted set votes count r others so e low =
    let h : Split (candidates s counted) count r others = split (candidates s counted) count r others (sym so.rest ∙ e) in
    record {
      members = ap (λ x. finite.insert x r) so.members ∙ sym (with_last counted (take count (candidates s counted)) r) ∙ sym (ap (with_all counted) h.front);
      rest = rest_is s set r others e ∙ sym h.back;
      few = h.more;
      least = λ fewer less enough.
          elim (last_or_less fewer count less) [
            | inl same ↦
                let here : votes ≤ votes_of s.config.quorums.votes set = subst (λ x. votes ≤ votes_of s.config.quorums.votes x) (sym (so.members ∙ ap (λ n. with_all counted (take n (candidates s counted))) (sym same))) enough in
                omega (arith, here, low)
            | inr lower ↦ so.least fewer lower enough
          ];
    }

pub counting_more : (s : System) (counted set : Replicas) (votes count r : ℕ) (others : List ℕ) → Counting s counted set votes count → candidates s set ≡ r ∷ others
    → votes_of s.config.quorums.votes set < votes → Counting s counted (finite.insert set r) votes (count + 1)
counting_more s counted set votes count r others so e low =
    let one : suc count ≡ count + 1 = omega arith in
    subst (λ n. Counting s counted (finite.insert set r) votes n) one (counting_suc s counted set votes count r others so e low)

pub counting_enough : (s : System) (counted set : Replicas) (votes count : ℕ) → Counting s counted set votes count → votes ≤ votes_of s.config.quorums.votes set
    → IsLeastCount (λ quorum. votes ≤ votes_of s.config.quorums.votes quorum) counted (candidates s counted) count
counting_enough s counted set votes count so enough = record { enough = subst (λ x. votes ≤ votes_of s.config.quorums.votes x) so.members enough; least = so.least }

drop_none : (xs : List ℕ) (count : ℕ) → drop count xs ≡ [] → take count xs ≡ xs
drop_none [] zero e = refl
drop_none [] (suc count) e = refl
drop_none (x ∷ xs) zero e = absurd cc
drop_none (x ∷ xs) (suc count) e = ap (λ ys. x ∷ ys) (drop_none xs count e)

-- while the votes aren't enough, a candidate is left
pub counting_left : (s : System) (counted set : Replicas) (votes count : ℕ) → Counting s counted set votes count → votes ≤ votes_of s.config.quorums.votes (replicas_up s)
    → votes_of s.config.quorums.votes set < votes → candidates s set ≡ [] → ⊥
counting_left s counted set votes count so enough low e =
    let all : votes_of s.config.quorums.votes (replicas_up s) ≤ votes_of s.config.quorums.votes (with_all counted (candidates s counted)) = all_votes s counted in
    let every : set ≡ with_all counted (candidates s counted) = so.members ∙ ap (with_all counted) (drop_none (candidates s counted) count (sym so.rest ∙ e)) in
    let same : votes_of s.config.quorums.votes set ≡ votes_of s.config.quorums.votes (with_all counted (candidates s counted)) = ap (votes_of s.config.quorums.votes) every in
    omega (arith, all, same, enough, low)

pub counting_few : (s : System) (counted set : Replicas) (votes count : ℕ) → IsLawful s.config.quorums → Counting s counted set votes count → count ≤ 15
counting_few s counted set votes count lawful so =
    let few = so.few in
    let all = few_candidates s counted in
    let most = lawful.most_replicas in
    omega (arith, few, all, most)
