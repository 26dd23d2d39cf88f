-- Sets of replicas: their members, and which two of them share one.
use Rattle.std.proofs.Common.{◌≡◌, ℕ, ◌⊎◌, ◌∙◌, Bool, true, false, ◌||◌, nat_eq, refl, sym, ap, inl, inr, eqb-true, leb-true, true≢false}
use Rattle.std.specs.Ordering.{nat_cmp}
use Rattle.std.specs.FinSet as finite
use Rattle.quorum.specs.Sets.{Replicas}
use Rattle.quorum.specs.Bits.{contains-insert}
use Rattle.quorum.specs.Quorums.{Quorums, IsLawful, Share, is_ask_quorum, is_put_quorum, votes_of}
use Rattle.quorum.proofs.SharedReplicas.{quorums_share}

pub quorums_meet : (quorums : Quorums) (s t : Replicas) → IsLawful quorums → is_ask_quorum quorums s ≡ true → is_put_quorum quorums t ≡ true → Share quorums s t
quorums_meet quorums s t lawful p q = quorums_share quorums s t lawful (leb-true quorums.ask (votes_of quorums.votes s) p) (leb-true quorums.put (votes_of quorums.votes t) q)

first_or_second : (q r : ℕ) (a b : Bool) → nat_eq q r ≡ a → (a || b) ≡ true → (q ≡ r) ⊎ (b ≡ true)
first_or_second q r true b e h = inl (eqb-true q r e)
first_or_second q r false b e h = inr h

-- a member of the set with a further one is that one or a member of the set
pub in_insert : (s : Replicas) (r q : ℕ) → finite.contains (finite.insert s r) q ≡ true → (q ≡ r) ⊎ (finite.contains s q ≡ true)
in_insert s r q h = first_or_second q r (nat_eq q r) (finite.contains s q) refl (sym (contains-insert s r q) ∙ h)

pub in_nobody : (q : ℕ) → finite.contains {R = nat_cmp} finite.empty q ≡ true → ⊥
in_nobody q h = true≢false (sym h ∙ finite.contains-empty nat_cmp q)

-- who counted nobody, counted none
pub none_counted : (s : Replicas) (r : ℕ) → nat_eq (finite.len s) 0 ≡ true → finite.contains s r ≡ true → ⊥
none_counted s r e h = in_nobody r (sym (ap (λ z. finite.contains z r) (finite.empty_of_len s (eqb-true (finite.len s) 0 e))) ∙ h)
