-- How many candidates make a quorum.
use Rattle.std.proofs.Common.{◌≡◌, ℕ, zero, suc, ◌+◌, ◌<◌, ◌≤◌, Bool, true, false, cond, not}
use Rattle.std.proofs.Common.{◌&&◌, ◌||◌, nat_eq, nat_le, List, [], ◌∷◌, take, length, slice_index}
use Rattle.std.proofs.Common.{refl, sym, ◌∙◌, ap, subst, arith, inl, inr, leb-true, eqb-true}
use Rattle.std.proofs.lemmas.Bool.{and_right, cases_order, le-leb}
use Rattle.std.proofs.lemmas.List.{take_all}
use Rattle.std.proofs.lemmas.List.FromFn.{length-range_with_len}
use Rattle.std.specs.FinSet as finite
use Rattle.std.specs.List.{filter, range_with_len}
use Rattle.std.specs.Ordering.{nat_cmp}
use Rattle.tag.proofs.Below.{below_or_last}
use Rattle.quorum.specs.Sets.{Replicas}
use Rattle.quorum.specs.Bits.{contains-insert}
use Rattle.quorum.specs.Quorums.{IsAskQuorum, IsPutQuorum, votes_below, votes_of}
use Rattle.client_phases.specs.declared.clients.Client.{Client}
use Rattle.client_phases.specs.declared.states.State.{State}
use Rattle.client_phases.specs.declared.states.State.TheVariants.{Idle, Ask, Put, Ready, Stopped}
use Rattle.world_steps.specs.declared.system.System.{System}
use Rattle.world_settle.specs.Settling.{is_up, is_candidate, candidates, with_all}
use Rattle.world_settle.specs.Refusing.{IsLeastCount, Needs, NeedsAt, replicas_up}

-- ---- members
abbrev member : ℕ → List ℕ → Bool
member m [] = false
member m (x ∷ xs) = nat_eq m x || member m xs

or_false : (a : Bool) → a ≡ (a || false)
or_false true = refl
or_false false = refl

swap_or : (a b c : Bool) → ((a || b) || c) ≡ (b || (a || c))
swap_or true true c = refl
swap_or true false c = refl
swap_or false b c = refl

contains_all : (set : Replicas) (xs : List ℕ) (m : ℕ) → finite.contains (with_all set xs) m
    ≡ (finite.contains set m || member m xs)
contains_all set [] m = or_false (finite.contains set m)
contains_all set (x ∷ xs) m =
    contains_all (finite.insert set x) xs m ∙ ap (λ b. b || member m xs) (contains-insert set x m)
    ∙ swap_or (nat_eq m x) (finite.contains set m) (member m xs)

member_by : (p : ℕ → Bool) (m x : ℕ) (rest all : Bool) (b c : Bool) (tail : List ℕ) → p x ≡ b
    → nat_eq m x ≡ c → member m tail ≡ rest → rest ≡ (p m && all)
    → member m (cond b (x ∷ tail) tail) ≡ (p m && (c || all))
member_by p m x rest all true true tail is same tails e =
    let here : m ≡ x = eqb-true m x same in
    ap (λ b. b || member m tail) same ∙ sym (ap (λ b. b && true) (ap p here ∙ is))
member_by p m x rest all true false tail is same tails e =
    ap (λ b. b || member m tail) same ∙ tails ∙ e
member_by p m x rest all false true tail is same tails e =
    let here : m ≡ x = eqb-true m x same in
    let out : p m ≡ false = ap p here ∙ is in
    tails ∙ e ∙ ap (λ b. b && all) out ∙ sym (ap (λ b. b && true) out)
member_by p m x rest all false false tail is same tails e = tails ∙ e

member_filter : (p : ℕ → Bool) (m : ℕ) (xs : List ℕ) → member m (filter p xs) ≡ (p m && member m xs)
member_filter p m [] = sym (and_right (p m) false refl)
member_filter p m (x ∷ xs) = member_by p m x (member m (filter p xs)) (member m xs) (p x) (nat_eq m
    x) (filter p xs) refl refl refl (member_filter p m xs)

contains_candidates : (s : System) (set : Replicas) (m : ℕ)
    → finite.contains (with_all set (candidates s set)) m
    ≡ (finite.contains set m || ((is_up s m && not (finite.contains set m))
    && member m (range_with_len 0 (length s.config.quorums.votes))))
contains_candidates s set m =
    contains_all set (candidates s set) m
    ∙ ap (λ b. finite.contains set m
    || b) (member_filter (is_candidate s set) m
    (range_with_len 0 (length s.config.quorums.votes)))

more_in : (up r none c : Bool) → none ≡ false → (none || ((up && not none) && r)) ≡ true
    → (c || ((up && not c) && r)) ≡ true
more_in up r true c e h = absurd cc
more_in up r false true e h = refl
more_in true r false false e h = h
more_in false r false false e h = h

-- with all candidates a set has all replicas that are up
all_up : (s : System) (set : Replicas) (m : ℕ) → finite.contains (replicas_up s) m ≡ true
    → finite.contains (with_all set (candidates s set)) m ≡ true
all_up s set m h =
    contains_candidates s set m
    ∙ more_in (is_up s m) (member m (range_with_len 0 (length s.config.quorums.votes)))
    (finite.contains {R = nat_cmp} finite.empty m) (finite.contains set m)
    (finite.contains-empty nat_cmp m) (sym (contains_candidates s finite.empty m) ∙ h)

-- ---- votes
no_more : (a b v : ℕ) (p q : Bool) → a ≤ b → (p ≡ true → q ≡ true) → a + cond p v 0 ≤ b + cond q v 0
no_more a b v true true le h = omega arith
no_more a b v false q le h = omega arith
no_more a b v true false le h = let e : false ≡ true = h refl in absurd cc

votes_below_more : (votes : List ℕ) (n : ℕ) (s t : Replicas)
    → ((m : ℕ) → finite.contains s m ≡ true → finite.contains t m ≡ true)
    → votes_below votes n s ≤ votes_below votes n t
votes_below_more votes zero s t more = omega arith
votes_below_more votes (suc n) s t more =
    no_more (votes_below votes n s) (votes_below votes n t) (slice_index votes n)
    (finite.contains s n) (finite.contains t n) (votes_below_more votes n s t more) (more n)

-- with all candidates a set has at least the votes of the replicas that are up
pub all_votes : (s : System) (set : Replicas)
    → votes_of s.config.quorums.votes (replicas_up s) ≤ votes_of s.config.quorums.votes
    (with_all set (candidates s set))
all_votes s set = votes_below_more s.config.quorums.votes (length s.config.quorums.votes)
    (replicas_up s) (with_all set (candidates s set)) (all_up s set)

-- ---- the least count
pub record Least (test : ℕ → Bool) : Type 0 where
  pub count : ℕ
  pub holds : test count ≡ true
  pub least : (fewer : ℕ) → fewer < count → test fewer ≡ true → ⊥

seek_by : (test : ℕ → Bool) (k : ℕ) (b : Bool) → test k ≡ b → ((m : ℕ) → m < k → test m ≡ true → ⊥)
    → (((m : ℕ) → m < suc k → test m ≡ true → ⊥) → Least test) → Least test
seek_by test k true is none later = record { count = k; holds = is; least = none }
seek_by test k false is none later = later (λ m less h. elim (below_or_last m k less) [
  | inl low ↦ none m low
      h
  | inr same ↦ (let e : test k ≡ true = ap test (sym same) ∙ h in cc)
])

seek : (test : ℕ → Bool) (fuel k : ℕ) → ((m : ℕ) → m < k → test m ≡ true → ⊥) → test (fuel + k)
    ≡ true → Least test
seek test zero k none e = let same : zero + k ≡ k = omega arith in
    record { count = k; holds = ap test (sym same) ∙ e; least = none }
seek test (suc fuel) k none e =
    let same : suc fuel + k ≡ fuel + suc k = omega arith in
    seek_by test k (test k) refl none (λ more. seek test fuel (suc k) more (ap test (sym same) ∙ e))

least_of : (test : ℕ → Bool) (n : ℕ) → test n ≡ true → Least test
least_of test n e =
    let same : n + 0 ≡ n = omega arith in seek test n 0 (λ m less h. omega arith) (ap test same ∙ e)

-- where all candidates make so many votes, a least count of them does
pub least_count : (s : System) (set : Replicas) (votes : ℕ)
    → votes ≤ votes_of s.config.quorums.votes (replicas_up s)
    → (count : ℕ) × IsLeastCount (λ quorum. votes ≤ votes_of s.config.quorums.votes quorum) set
    (candidates s set) count
least_count s set votes enough =
    let test : ℕ → Bool = λ n. nat_le votes (votes_of s.config.quorums.votes (with_all set (take n
    (candidates s set)))) in
    let every : take (length (candidates s set)) (candidates s set) ≡ candidates s set =
    take_all (length (candidates s set)) (candidates s set) (omega arith) in
    let all = all_votes s set in
    let many : votes ≤ votes_of s.config.quorums.votes (with_all set (candidates s set)) =
    omega (arith, enough, all) in
    let l : Least test = least_of test (length (candidates s set))
    (ap (λ xs. nat_le votes (votes_of s.config.quorums.votes (with_all set xs))) every
    ∙ le-leb votes (votes_of s.config.quorums.votes (with_all set (candidates s set))) many) in (
      l.count,
      record {
        enough = leb-true votes (votes_of s.config.quorums.votes
            (with_all set (take l.count (candidates s set)))) l.holds;
        least = λ fewer less q. l.least fewer less
            (le-leb votes (votes_of s.config.quorums.votes
            (with_all set (take fewer (candidates s set)))) q);
      },
    )

-- ---- there is one least count, and it is no more than there are candidates
pub least_once : (Q : Replicas → Type 0) (set : Replicas) (cs : List ℕ) (m n : ℕ)
    → IsLeastCount Q set cs m → IsLeastCount Q set cs n → m ≡ n
least_once Q set cs m n a b =
    elim (cases_order m n) [
      | inl same ↦ same
      | inr other ↦ elim other [
        | inl less ↦ absurd (b.least m less a.enough)
        | inr more ↦ absurd
            (a.least n more b.enough)
      ]
    ]

at_most : (m n : ℕ) → (n < m → ⊥) → m ≤ n
at_most m n h = elim (cases_order m n) [
  | inl same ↦ omega arith
  | inr other ↦ elim other [
    | inl
        less ↦ omega arith
    | inr more ↦ absurd (h more)
  ]
]

pub least_within : (Q : Replicas → Type 0) (set : Replicas) (cs : List ℕ) (n : ℕ)
    → IsLeastCount Q set cs n → n ≤ length cs
least_within Q set cs n a =
    at_most n (length cs) (λ more. a.least (length cs) more
    (subst (λ xs. Q (with_all set xs)) (take_all n cs (omega arith)
    ∙ sym (take_all (length cs) cs (omega arith))) a.enough))

length_filter : (p : ℕ → Bool) (xs : List ℕ) → length (filter p xs) ≤ length xs
length_filter p [] = omega arith
length_filter p (x ∷ xs) = by (p x) (filter p xs) (length xs) (length_filter p xs)
  where
    by : (b : Bool) (tail : List ℕ) (n : ℕ) → length tail ≤ n
        → length (cond b (x ∷ tail) tail) ≤ suc n
    by true tail n h = omega arith
    by false tail n h = omega arith

pub few_candidates : (s : System) (set : Replicas)
    → length (candidates s set) ≤ length s.config.quorums.votes
few_candidates s set =
    let few = length_filter (is_candidate s set) (range_with_len 0 (length s.config.quorums.votes))
    in
    let all = length-range_with_len 0 (length s.config.quorums.votes) in
    omega (arith, few, all)

-- with the first candidate in the set one fewer is needed
pub fewer_needed : (Q : Replicas → Type 0) (set : Replicas) (r : ℕ) (others : List ℕ) (n : ℕ)
    → (Q set → ⊥) → IsLeastCount Q set (r ∷ others) n
    → (m : ℕ) × (n ≡ suc m) × IsLeastCount Q (finite.insert set r) others m
fewer_needed Q set r others zero not h = absurd (not h.enough)
fewer_needed Q set r others (suc m) not h = (
  m,
  refl,
  record {
    enough = h.enough;
    least = λ fewer less q. h.least (suc fewer) (omega arith) q;
  },
)

-- what isn't a quorum yet has a candidate
pub some_candidate : (Q : Replicas → Type 0) (set : Replicas) (cs : List ℕ) (n : ℕ) → (Q set → ⊥)
    → IsLeastCount Q set cs n → (r : ℕ) × (others : List ℕ) × (cs ≡ r ∷ others)
some_candidate Q set [] zero not h = absurd (not h.enough)
some_candidate Q set [] (suc n) not h = absurd (not h.enough)
some_candidate Q set (r ∷ others) n not h = (r, others, refl)

-- ---- what a call needs
needs_state : (s : System) (state : State) (a b c d : ℕ) → Needs s state a b → Needs s state c d
    → (a ≡ c) × (b ≡ d)
needs_state s (Ask asking) a b c d m n = (
  least_once (IsAskQuorum s.config.quorums) asking.counted (candidates s asking.counted) a c m.0
      n.0,
  least_once (IsPutQuorum s.config.quorums) finite.empty (candidates s finite.empty) b d
      m.1 n.1,
)
needs_state s (Put chosen counted) a b c d m n = (
  m.0 ∙ sym n.0,
  least_once (IsPutQuorum s.config.quorums) counted (candidates s counted) b d m.1
      n.1,
)
needs_state s (Ready chosen) a b c d m n = (m.0 ∙ sym n.0, m.1 ∙ sym n.1)
needs_state s Idle a b c d m n = absurd m
needs_state s Stopped a b c d m n = absurd m

-- a call needs one count of each kind
pub needs_once : (s : System) (name a b c d : ℕ) → NeedsAt s name a b → NeedsAt s name c d → (a ≡ c)
    × (b ≡ d)
needs_once s name a b c d m n =
    let first = m.is in
    let second = n.is in
    let same : m.client ≡ n.client = cc in
    needs_state s n.client.state a b c d (subst (λ (x : Client). Needs s x.state a b) same m.needs)
    n.needs
