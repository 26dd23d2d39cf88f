-- An ask quorum and a put quorum share a replica.
use Rattle.std.proofs.Common.{◌≡◌, ℕ, zero, suc, ◌+◌, ◌<◌, ◌≤◌, ◌⊎◌, ◌∙◌, Bool, true, false, cond}
use Rattle.std.proofs.Common.{List, length, take, refl, sym, ap, inl, inr, sum, slice_index}
use Rattle.std.proofs.Common.{zero-le}
use Rattle.std.proofs.Math.Nat.{add-le-add, add-zero, add_assoc, add_left_comm, le-suc, le_of_eq}
use Rattle.std.proofs.Math.Nat.{le_refl, le_trans, lt-suc_self, lt_irrefl, lt_of_lt_of_le, zero-add}
use Rattle.std.proofs.Math.Numerals.{add-one}
use Rattle.std.proofs.Math.Seq.{take-length}
use Rattle.std.proofs.lemmas.List.Sums.{fold_more}
use Rattle.std.specs.FinSet as finite
use Rattle.quorum.specs.Sets.{Replicas}
use Rattle.quorum.specs.Quorums.{Quorums, IsLawful, IsAskQuorum, IsPutQuorum, Share, votes_below}
use Rattle.quorum.specs.Quorums.{votes_of}

-- the two share a replica below a number
record ShareBelow (n : ℕ) (some other : Replicas) : Type 0 where
  replica : ℕ
  below : replica < n
  in_some : finite.contains some replica ≡ true
  in_other : finite.contains other replica ≡ true

further : (n : ℕ) (s t : Replicas) → ShareBelow n s t → ShareBelow (suc n) s t
further n s t share =
    record {
      replica = share.replica;
      below = lt_of_lt_of_le share.below (le-suc n);
      in_some = share.in_some;
      in_other = share.in_other;
    }

-- four summands, the middle two exchanged
exchange : (x a y b : ℕ) → (x + a) + (y + b) ≡ (x + y) + (a + b)
exchange x a y b =
    add_assoc x a (y + b) ∙ ap (λ m. x + m) (add_left_comm a y b) ∙ sym (add_assoc x y (a + b))

bounded : (x a y b z v : ℕ) → x + y ≤ z → a + b ≤ v → (x + a) + (y + b) ≤ z + v
bounded x a y b z v before here = le_trans (le_of_eq (exchange x a y b)) (add-le-add before here)

-- the next replica is in both, or its votes count once at most
here_or_bounded : (n x y z v : ℕ) (s t : Replicas) (a b : Bool) → finite.contains s n ≡ a
    → finite.contains t n ≡ b → x + y ≤ z
    → ShareBelow (suc n) s t ⊎ ((x + cond a v 0) + (y + cond b v 0) ≤ z + v)
here_or_bounded n x y z v s t true true p q h =
    inl (record { replica = n; below = lt-suc_self n; in_some = p; in_other = q })
here_or_bounded n x y z v s t true false p q h = inr (bounded x v y 0 z v h (le_of_eq (add-zero v)))
here_or_bounded n x y z v s t false true p q h = inr (bounded x 0 y v z v h (le_of_eq (zero-add v)))
here_or_bounded n x y z v s t false false p q h = inr (bounded x 0 y 0 z v h zero-le)

sum-more : (votes : List ℕ) (n : ℕ) → n < length votes → sum (take (suc n) votes)
    ≡ sum (take n votes) + slice_index votes n
sum-more votes n h =
    ap (λ k. sum (take k votes)) (sym (add-one n)) ∙ fold_more (λ a x. a + x) 0 votes n 0 h

-- a replica below a number is in both, or the votes of the two together are at most all votes there
share_or_bounded : (votes : List ℕ) (n : ℕ) (s t : Replicas) → n ≤ length votes
    → ShareBelow n s t ⊎ (votes_below votes n s + votes_below votes n t ≤ sum (take n votes))
share_or_bounded votes zero s t fits = inr (le_refl 0)
share_or_bounded votes (suc n) s t fits =
    elim (share_or_bounded votes n s t (le_trans (le-suc n) fits)) [
      | inl share ↦ inl (further n s t share)
      | inr before ↦
          elim (here_or_bounded n (votes_below votes n s) (votes_below votes n t)
          (sum (take n votes)) (slice_index votes n)
          s t (finite.contains s n) (finite.contains t n) refl refl before) [
            | inl share ↦ inl share
            | inr most ↦ inr (le_trans most (le_of_eq (sym (sum-more votes n fits))))
          ]
    ]

-- where the votes of two sets together are more than all, the two share a replica
pub votes_share : (quorums : Quorums) (some other : Replicas)
    → sum quorums.votes < votes_of quorums.votes some + votes_of quorums.votes other
    → Share quorums some other
votes_share quorums some other h =
    let votes = quorums.votes in
    elim (share_or_bounded votes (length votes) some other (le_refl (length votes))) [
      | inl share ↦ record {
        replica = share.replica;
        is_replica = share.below;
        in_some = share.in_some;
        in_other = share.in_other;
      }
      | inr most ↦ absurd (lt_irrefl (sum votes)
          (lt_of_lt_of_le h (le_trans most (le_of_eq (ap sum (take-length votes))))))
    ]

pub quorums_share : (quorums : Quorums) (asked put : Replicas)
    → IsLawful quorums → IsAskQuorum quorums asked → IsPutQuorum quorums put
    → Share quorums asked put
quorums_share quorums asked put lawful is_ask is_put =
    votes_share quorums asked put (lt_of_lt_of_le lawful.overlap (add-le-add is_ask is_put))
