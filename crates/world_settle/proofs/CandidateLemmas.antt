-- The candidates of a set, and which are left with the first of them in the set.
use Rattle.std.proofs.Common.{◌≡◌, ◌≢◌, ℕ, zero, suc, ◌+◌, ◌<◌, ◌≤◌, Bool, true, false, cond, not, ◌&&◌, List, [], ◌∷◌, Option, Some, None, length, slice_get, refl, sym, ◌∙◌, ap, arith, inl, inr, ◌⊎◌}
use Rattle.std.proofs.lemmas.Bool.{and_parts, and_right, not-true}
use Rattle.std.proofs.lemmas.List.Elements.{filter_agree}
use Rattle.std.specs.FinSet as finite
use Rattle.std.specs.List.{filter, range_with_len}
use Rattle.std.specs.Option.{option_map_or}
use Rattle.quorum.specs.Sets.{Replicas}
use Rattle.quorum.proofs.MoreVotes.{insert-other, insert-same}
use Rattle.world_steps.specs.Configs.{Config}
use Rattle.world_steps.specs.declared.nodes.Node.{Node}
use Rattle.world_steps.specs.declared.system.System.{System}
use Rattle.world_settle.specs.Settling.{is_up, is_candidate, candidates}

-- ---- the numbers in order that pass a test

-- the first number that passes
pub record IsFirst (p : ℕ → Bool) (k n r : ℕ) : Type 0 where
  pub passes : p r ≡ true
  pub least : k ≤ r
  pub below : r < k + n

first_by : (p : ℕ → Bool) (k n r : ℕ) (others tail : List ℕ) (b : Bool) → p k ≡ b → cond b (k ∷ tail) tail ≡ r ∷ others → (tail ≡ r ∷ others → IsFirst p (k + 1) n r) → IsFirst p k (suc n) r
first_by p k n r others tail true is e later = let same : k ≡ r = cc in record { passes = ap p (sym same) ∙ is; least = omega arith; below = omega arith }
first_by p k n r others tail false is e later =
    let h = later e in
    let least = h.least in
    let below = h.below in
    record { passes = h.passes; least = omega (arith, least); below = omega (arith, below) }

pub first_of : (p : ℕ → Bool) (k n r : ℕ) (others : List ℕ) → filter p (range_with_len k n) ≡ r ∷ others → IsFirst p k n r
first_of p k zero r others e = absurd cc
first_of p k (suc n) r others e = first_by p k n r others (filter p (range_with_len (k + 1) n)) (p k) refl e (λ f. first_of p (k + 1) n r others f)

-- tests that agree but for a smaller number
agree_above : (p q : ℕ → Bool) (r k n : ℕ) → r < k → ((m : ℕ) → m ≢ r → q m ≡ p m) → filter q (range_with_len k n) ≡ filter p (range_with_len k n)
agree_above p q r k zero less same = refl
agree_above p q r k (suc n) less same =
    let rest : filter q (range_with_len (k + 1) n) ≡ filter p (range_with_len (k + 1) n) = agree_above p q r (k + 1) n (omega arith) same in
    let here : q k ≡ p k = same k (λ e. omega arith) in
    ap (λ b. cond b (k ∷ filter q (range_with_len (k + 1) n)) (filter q (range_with_len (k + 1) n))) here ∙ ap (λ xs. cond (p k) (k ∷ xs) xs) rest

out_here : (q : ℕ → Bool) (k : ℕ) (tail : List ℕ) → q k ≡ false → cond (q k) (k ∷ tail) tail ≡ tail
out_here q k tail e = ap (λ b. cond b (k ∷ tail) tail) e

rest_by : (p q : ℕ → Bool) (r k n : ℕ) (others : List ℕ) (b : Bool) → p k ≡ b
    → cond b (k ∷ filter p (range_with_len (k + 1) n)) (filter p (range_with_len (k + 1) n)) ≡ r ∷ others
    → ((m : ℕ) → m ≢ r → q m ≡ p m) → q r ≡ false
    → (filter p (range_with_len (k + 1) n) ≡ r ∷ others → filter q (range_with_len (k + 1) n) ≡ others)
    → cond (q k) (k ∷ filter q (range_with_len (k + 1) n)) (filter q (range_with_len (k + 1) n)) ≡ others
rest_by p q r k n others true is e same out later =
    let here : k ≡ r = cc in
    let tail : filter p (range_with_len (k + 1) n) ≡ others = cc in
    out_here q k (filter q (range_with_len (k + 1) n)) (ap q here ∙ out) ∙ agree_above p q r (k + 1) n (omega arith) same ∙ tail
rest_by p q r k n others false is e same out later =
    let first = first_of p (k + 1) n r others e in
    let least = first.least in
    out_here q k (filter q (range_with_len (k + 1) n)) (same k (λ h. omega (arith, least)) ∙ is) ∙ later e

-- a test that agrees but for the first number that passes leaves the others
pub rest_of : (p q : ℕ → Bool) (r k n : ℕ) (others : List ℕ) → ((m : ℕ) → m ≢ r → q m ≡ p m) → q r ≡ false → filter p (range_with_len k n) ≡ r ∷ others → filter q (range_with_len k n) ≡ others
rest_of p q r k zero others same out e = absurd cc
rest_of p q r k (suc n) others same out e = rest_by p q r k n others (p k) refl e same out (λ f. rest_of p q r (k + 1) n others same out f)

-- ---- candidates
node_up : (o : Option Node) → option_map_or (λ (node : Node). node.is_up) o false ≡ true → (node : Node) × (o ≡ Some node) × (node.is_up ≡ true)
node_up None e = absurd cc
node_up (Some node) e = (node, refl, e)

-- a replica that is up, and that the set lacks
pub record Candidate (s : System) (set : Replicas) (replica : ℕ) : Type 0 where
  pub node : Node
  pub is : slice_get s.nodes replica ≡ Some node
  pub up : node.is_up ≡ true
  pub lacked : finite.contains set replica ≡ false
  pub below : replica < length s.config.quorums.votes

pub candidate_found : (s : System) (set : Replicas) (replica : ℕ) → is_candidate s set replica ≡ true → replica < length s.config.quorums.votes → Candidate s set replica
candidate_found s set replica e below =
    let parts = and_parts (is_up s replica) (not (finite.contains set replica)) e in
    let (node, is, up) = node_up (slice_get s.nodes replica) parts.0 in
    record { node = node; is = is; up = up; lacked = not-true (finite.contains set replica) parts.1; below = below }

pub candidate_first : (s : System) (set : Replicas) (replica : ℕ) (others : List ℕ) → candidates s set ≡ replica ∷ others → Candidate s set replica
candidate_first s set replica others e =
    let first = first_of (is_candidate s set) 0 (length s.config.quorums.votes) replica others e in
    let below = first.below in
    candidate_found s set replica first.passes (omega (arith, below))

-- the same replicas are up
abbrev pub SameUp : System → System → Type 0
SameUp s t = (m : ℕ) → is_up t m ≡ is_up s m

-- with the first in the set the others are left
pub candidates_rest : (s t : System) (set : Replicas) (r : ℕ) (others : List ℕ) → SameUp s t → t.config ≡ s.config → candidates s set ≡ r ∷ others → candidates t (finite.insert set r) ≡ others
candidates_rest s t set r others ups config e =
    ap (λ (c : Config). filter (is_candidate t (finite.insert set r)) (range_with_len 0 (length c.quorums.votes))) config
    ∙ rest_of (is_candidate s set) (is_candidate t (finite.insert set r)) r 0 (length s.config.quorums.votes) others
    (λ m ne. ap (λ b. b && not (finite.contains (finite.insert set r) m)) (ups m) ∙ ap (λ b. is_up s m && not b) (insert-other set r m ne))
    (ap (λ b. is_up t r && not b) (insert-same set r) ∙ and_right (is_up t r) false refl)
    e

pub candidates_same : (s t : System) (set : Replicas) → SameUp s t → t.config ≡ s.config → candidates t set ≡ candidates s set
candidates_same s t set ups config =
    ap (λ (c : Config). filter (is_candidate t set) (range_with_len 0 (length c.quorums.votes))) config
    ∙ filter_agree (is_candidate t set) (is_candidate s set) (λ m. ap (λ b. b && not (finite.contains set m)) (ups m)) (range_with_len 0 (length s.config.quorums.votes))

-- ---- finding the first candidate
pub first_found : (p : ℕ → Bool) (k n r : ℕ) → ((m : ℕ) → k ≤ m → m < r → p m ≡ false) → p r ≡ true → k ≤ r → r < k + n → (others : List ℕ) × (filter p (range_with_len k n) ≡ r ∷ others)
first_found p k zero r none is least below = absurd (omega arith)
first_found p k (suc n) r none is least below =
    elim (equal_or_below k r least) [
      | inl same ↦
          (filter p (range_with_len (k + 1) n), ap (λ b. cond b (k ∷ filter p (range_with_len (k + 1) n)) (filter p (range_with_len (k + 1) n))) (ap p same ∙ is) ∙ ap (λ x. x ∷ filter p (range_with_len (k + 1) n)) same)
      | inr less ↦
          let (others, e) = first_found p (k + 1) n r (λ m low high. none m (omega arith) high) is (omega arith) (omega arith) in
          (others, out_here p k (filter p (range_with_len (k + 1) n)) (none k (omega arith) less) ∙ e)
    ]
  where
    equal_or_below : (k r : ℕ) → k ≤ r → (k ≡ r) ⊎ (k < r)
    equal_or_below k r h = grind arith

pub none_found : (p : ℕ → Bool) (k n : ℕ) → ((m : ℕ) → k ≤ m → m < k + n → p m ≡ false) → filter p (range_with_len k n) ≡ []
none_found p k zero none = refl
none_found p k (suc n) none =
    out_here p k (filter p (range_with_len (k + 1) n)) (none k (omega arith) (omega arith)) ∙ none_found p (k + 1) n (λ m low high. none m (omega arith) (omega arith))

pub candidate_there : (s : System) (set : Replicas) (r n : ℕ) → n ≡ length s.config.quorums.votes → ((m : ℕ) → m < r → is_candidate s set m ≡ false) → is_candidate s set r ≡ true → r < n
    → (others : List ℕ) × (candidates s set ≡ r ∷ others)
candidate_there s set r n all none is less = first_found (is_candidate s set) 0 (length s.config.quorums.votes) r (λ m low high. none m high) is (omega arith) (omega arith)

pub candidates_none : (s : System) (set : Replicas) (n : ℕ) → n ≡ length s.config.quorums.votes → ((m : ℕ) → m < n → is_candidate s set m ≡ false) → candidates s set ≡ []
candidates_none s set n all none = none_found (is_candidate s set) 0 (length s.config.quorums.votes) (λ m low high. none m (omega arith))
