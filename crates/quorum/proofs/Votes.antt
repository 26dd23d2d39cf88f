-- Where each replica has one vote, a set has as many votes as members.
use Rattle.std.proofs.Common.{◌≡◌, ℕ, zero, suc, ◌+◌, ◌-◌, ◌*◌, ◌/◌, ◌<◌, ◌≤◌, ◌≢◌, Bool, true, false, cond, List, slice_index, replicate, refl, sym, ap, ◌∙◌, arith}
use Rattle.std.specs.Prelude.{◌&&◌, not, nat_eq, ◌↔◌}
use Rattle.std.specs.FinSet as finite
use Rattle.std.specs.Ordering.{nat_cmp}
use Rattle.std.specs.Cmp.{nat_cmp_total, unsigned_tied}
use Rattle.std.proofs.lemmas.Bool.{ne_eqb, false≢true, and_parts, false_from_ne_true, not-true, eqb-false}
use Rattle.std.proofs.lemmas.List.{length-replicate, get_or-replicate}
use Rattle.quorum.specs.Sets.{Replicas, IsOfFirst, IsMajority}
use Rattle.quorum.specs.Quorums.{IsAskQuorum, IsPutQuorum, majority_of, votes_below, votes_of}
use Rattle.quorum.proofs.MoreVotes.{votes_below-same}

none-in : (set : Replicas) → IsOfFirst 0 set → finite.len set ≡ 0
none-in set among =
    let out = λ (q : ℕ). false_from_ne_true (finite.contains set q) (λ h. let below = among q h in omega arith) in
    let same = λ (q : ℕ). out q ∙ sym (finite.contains-empty nat_cmp q) in
    let is_empty = finite.same_set nat_cmp_total finite.nat_cmp-IsAntisymmetric set finite.empty same in
    ap finite.len is_empty ∙ finite.len-empty nat_cmp

contains-remove : (set : Replicas) (n q : ℕ) → finite.contains (finite.remove set n) q ≡ (not (nat_eq q n) && finite.contains set q)
contains-remove set n q = finite.contains-remove nat_cmp_total set n q ∙ ap (λ b. not b && finite.contains set q) (unsigned_tied q n)

remove-other : (set : Replicas) (n q : ℕ) → q ≢ n → finite.contains (finite.remove set n) q ≡ finite.contains set q
remove-other set n q ne = contains-remove set n q ∙ ap (λ b. not b && finite.contains set q) (ne_eqb q n ne)

some_if : (n : ℕ) → (n ≡ 0 → ⊥) → 1 ≤ n
some_if zero h = absurd (h refl)
some_if (suc n) h = omega arith

has_some : (set : Replicas) (n : ℕ) → finite.contains set n ≡ true → 1 ≤ finite.len set
has_some set n h =
    some_if (finite.len set) (λ e.
    false≢true (sym (ap (λ s. finite.contains s n) (finite.empty_of_len set e) ∙ finite.contains-empty nat_cmp n) ∙ h))

among_rest : (set : Replicas) (n : ℕ) → IsOfFirst (suc n) set → IsOfFirst n (finite.remove set n)
among_rest set n among q h =
    let parts = and_parts (not (nat_eq q n)) (finite.contains set q) (sym (contains-remove set n q) ∙ h) in
    let below : q < suc n = among q parts.1 in
    let ne : q ≢ n = eqb-false q n (not-true (nat_eq q n) parts.0) in
    omega arith

among_less : (set : Replicas) (n : ℕ) → IsOfFirst (suc n) set → finite.contains set n ≡ false → IsOfFirst n set
among_less set n among out q h =
    let below : q < suc n = among q h in
    let ne : q ≢ n = λ e. false≢true (sym out ∙ ap (finite.contains set) (sym e) ∙ h) in
    omega arith

one_vote : (count n : ℕ) → n < count → slice_index (replicate count 1) n ≡ 1
one_vote count n h = get_or-replicate count n 1 0 h

members_step : (count n : ℕ) (set : Replicas) (b : Bool) → suc n ≤ count → IsOfFirst (suc n) set → finite.contains set n ≡ b
    → ((rest : Replicas) → IsOfFirst n rest → votes_below (replicate count 1) n rest ≡ finite.len rest)
    → votes_below (replicate count 1) n set + cond b (slice_index (replicate count 1) n) 0 ≡ finite.len set
members_step count n set true fits among is each =
    let votes : List ℕ = replicate count 1 in
    let rest = finite.remove set n in
    let other : (k : ℕ) → k < n → finite.contains rest k ≡ finite.contains set k = λ k h. remove-other set n k (λ e. omega arith) in
    let same : votes_below votes n rest ≡ votes_below votes n set = votes_below-same votes n rest set other in
    let rest_is : votes_below votes n rest ≡ finite.len rest = each rest (among_rest set n among) in
    let size = finite.len set in
    let fewer : finite.len rest ≡ size - 1 = finite.len-remove nat_cmp_total set n ∙ ap (λ b. cond b (size - 1) size) is in
    let some : 1 ≤ finite.len set = has_some set n is in
    let vote : slice_index votes n ≡ 1 = one_vote count n (omega arith) in
    let e : votes_below votes n set + slice_index votes n ≡ finite.len set = omega (arith, same, rest_is, fewer, some, vote) in
    e
members_step count n set false fits among out each =
    let votes : List ℕ = replicate count 1 in
    let rest_is : votes_below votes n set ≡ finite.len set = each set (among_less set n among out) in
    let e : votes_below votes n set + 0 ≡ finite.len set = omega (arith, rest_is) in
    e

members_below : (count n : ℕ) (set : Replicas) → n ≤ count → IsOfFirst n set → votes_below (replicate count 1) n set ≡ finite.len set
members_below count zero set fits among = sym (none-in set among)
members_below count (suc n) set fits among =
    members_step count n set (finite.contains set n) fits among refl (λ rest h. members_below count n rest (omega arith) h)

pub votes_of-ones : (n : ℕ) (set : Replicas) → IsOfFirst n set → votes_of (replicate n 1) set ≡ finite.len set
votes_of-ones n set among =
    ap (λ k. votes_below (replicate n 1) k set) (length-replicate n 1) ∙ members_below n n set (omega arith) among

more_than_half : (n m votes : ℕ) → votes ≡ m → (n < 2 * m) ↔ (n / 2 + 1 ≤ votes)
more_than_half n m votes e = (λ h. omega arith, λ h. omega arith)

pub majority_ask : (n : ℕ) (set : Replicas) → IsOfFirst n set → IsMajority n set ↔ IsAskQuorum (majority_of n) set
majority_ask n set among = more_than_half n (finite.len set) (votes_of (replicate n 1) set) (votes_of-ones n set among)

pub majority_put : (n : ℕ) (set : Replicas) → IsOfFirst n set → IsMajority n set ↔ IsPutQuorum (majority_of n) set
majority_put n set among = more_than_half n (finite.len set) (votes_of (replicate n 1) set) (votes_of-ones n set among)
