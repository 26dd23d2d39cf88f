-- The votes of a set with one member more.
use Rattle.std.proofs.Common.{◌≡◌, ℕ, zero, suc, ◌+◌, ◌<◌, ◌≢◌, inl, inr, true, false, cond, List}
use Rattle.std.proofs.Common.{length, slice_index, refl, sym, ap, subst, ◌∙◌}
use Rattle.std.specs.Prelude.{◌||◌}
use Rattle.std.specs.FinSet as finite
use Rattle.std.proofs.Math.Nat.{add_right_comm, add-zero, eq-or-lt_of_le, le-suc, le_of_suc-le-suc}
use Rattle.std.proofs.Math.Nat.{lt-suc_self, lt_of_lt_of_le, ne_of_lt, not-suc-le-zero}
use Rattle.std.proofs.lemmas.Bool.{eq-eqb, ne_eqb}
use Rattle.quorum.specs.Sets.{Replicas}
use Rattle.quorum.specs.Bits.{contains-insert}
use Rattle.quorum.specs.Quorums.{votes_below, votes_of}

-- sets that agree below a number have the same votes there
pub votes_below-same : (votes : List ℕ) (n : ℕ) (s t : Replicas)
    → ((k : ℕ) → k < n → finite.contains s k ≡ finite.contains t k)
    → votes_below votes n s ≡ votes_below votes n t
votes_below-same votes zero s t same = refl
votes_below-same votes (suc n) s t same =
    let below = votes_below-same votes n s t (λ k h. same k (lt_of_lt_of_le h (le-suc n))) in
    ap (λ v. v + cond (finite.contains s n) (slice_index votes n) 0) below
    ∙ ap (λ b. votes_below votes n t + cond b (slice_index votes n) 0) (same n (lt-suc_self n))

-- another replica is in the set as before
pub insert-other : (set : Replicas) (r k : ℕ) → k ≢ r → finite.contains (finite.insert set r) k
    ≡ finite.contains set k
insert-other set r k ne =
    contains-insert set r k ∙ ap (λ b. b || finite.contains set k) (ne_eqb k r ne)

-- the further replica is in the set
pub insert-same : (set : Replicas) (r : ℕ) → finite.contains (finite.insert set r) r ≡ true
insert-same set r = contains-insert set r r ∙ ap (λ b. b || finite.contains set r) (eq-eqb r r refl)

-- the votes with a further member at the top
brings_at : (votes : List ℕ) (r : ℕ) (set : Replicas) → finite.contains set r ≡ false
    → votes_below votes (suc r) (finite.insert set r)
    ≡ votes_below votes (suc r) set + slice_index votes r
brings_at votes r set out =
    let more = finite.insert set r in
    let v = slice_index votes r in
    let old = votes_below votes r set in
    let below : votes_below votes r more ≡ old =
    votes_below-same votes r more set (λ k h. insert-other set r k (ne_of_lt h)) in
    let none : old + cond (finite.contains set r) v 0 ≡ old =
    ap (λ b. old + cond b v 0) out ∙ add-zero old in
    ap (λ x. x + cond (finite.contains more r) v 0) below
    ∙ ap (λ b. old + cond b v 0) (insert-same set r)
    ∙ ap (λ x. x + v) (sym none)

-- the votes with a further member anywhere
brings_below : (votes : List ℕ) (n r : ℕ) (set : Replicas) → r < n → finite.contains set r ≡ false
    → votes_below votes n (finite.insert set r) ≡ votes_below votes n set + slice_index votes r
brings_below votes zero r set h out = absurd (not-suc-le-zero h)
brings_below votes (suc n) r set h out =
    let more = finite.insert set r in
    let v = slice_index votes r in
    let w = slice_index votes n in
    elim (eq-or-lt_of_le (le_of_suc-le-suc h)) [
      | inl e ↦ subst (λ k. votes_below votes (suc k) more
          ≡ votes_below votes (suc k) set + v) e (brings_at votes r set out)
      | inr less ↦
          ap (λ x. x + cond (finite.contains more n) w 0) (brings_below votes n r set less out)
          ∙ ap (λ b. votes_below votes n set + v + cond b w 0)
          (insert-other set r n (λ e. ne_of_lt less (sym e)))
          ∙ add_right_comm (votes_below votes n set) v (cond (finite.contains set n) w 0)
    ]

-- a member more brings its votes
pub votes_of-insert : (votes : List ℕ) (set : Replicas) (r : ℕ) → r < length votes
    → finite.contains set r ≡ false
    → votes_of votes (finite.insert set r) ≡ votes_of votes set + slice_index votes r
votes_of-insert votes set r h out = brings_below votes (length votes) r set h out
