-- What a put changes: its own key alone, and that one's tag upwards.
use Rattle.std.proofs.Common.{◌≡◌, Bool, true, false, List, ℕ, cond, inl, inr, ap, sym, subst, ◌∙◌, refl, rules}
use Rattle.std.specs.Ordering.{is_le, is_lt, ordering_reverse}
use Rattle.std.specs.declared.cmp.Ordering.{Ordering}
use Rattle.std.specs.declared.cmp.Ordering.TheVariants.{Less, Equal, Greater}
use Rattle.std.specs.Cmp.{IsTotalOrder, tied_itself}
use Rattle.std.specs.Cmp.Rules.{comparing}
use Rattle.std.specs.FinMap as finite
use Rattle.tag.specs.Tags.{Tag, tag_cmp}
use Rattle.replica.proofs.Insertions.{pair_of-adopt_other, pair_of-insert_same, same_key_or_not}
use Rattle.replica.specs.Pairs.{Pair, Pairs, pair_of, adopt}
use Rattle.replica.specs.Replicas.{pairs_after}
use Rattle.replica.specs.declared.requests.Request.{Request}
use Rattle.replica.specs.declared.requests.Request.TheVariants.{Query, Put}

pub tag_cmp_total : IsTotalOrder tag_cmp
tag_cmp_total = search (comparing, rules)

le-lt : (o : Ordering) → is_lt o ≡ true → is_le o ≡ true
le-lt Less e = refl
le-lt Equal e = cc
le-lt Greater e = cc

le-reverse : (o : Ordering) → is_lt o ≡ false → is_le (ordering_reverse o) ≡ true
le-reverse Less e = cc
le-reverse Equal e = refl
le-reverse Greater e = refl

pub tag_cmp_refl : (tag : Tag) → is_le (tag_cmp tag tag) ≡ true
tag_cmp_refl tag = ap is_le (tied_itself tag_cmp_total tag)

-- what is put is kept, or what was there before has a tag that is at least its
kept_by : (pairs : Pairs) (key : List ℕ) (pair : Pair) (b : Bool) → is_lt (tag_cmp (pair_of pairs key).tag pair.tag) ≡ b
    → is_le (tag_cmp pair.tag (pair_of (cond b (finite.insert pairs key pair) pairs) key).tag) ≡ true
kept_by pairs key pair true e = ap (λ (p : Pair). is_le (tag_cmp pair.tag p.tag)) (pair_of-insert_same pairs key pair) ∙ tag_cmp_refl pair.tag
kept_by pairs key pair false e = ap is_le (tag_cmp_total.antisymm pair.tag (pair_of pairs key).tag) ∙ le-reverse _ e

pub adopt-kept : (pairs : Pairs) (key : List ℕ) (pair : Pair) → is_le (tag_cmp pair.tag (pair_of (adopt pairs key pair) key).tag) ≡ true
adopt-kept pairs key pair = kept_by pairs key pair _ refl

own_rises : (pairs : Pairs) (key : List ℕ) (pair : Pair) (b : Bool) → is_lt (tag_cmp (pair_of pairs key).tag pair.tag) ≡ b
    → is_le (tag_cmp (pair_of pairs key).tag (pair_of (cond b (finite.insert pairs key pair) pairs) key).tag) ≡ true
own_rises pairs key pair true e = ap (λ (p : Pair). is_le (tag_cmp (pair_of pairs key).tag p.tag)) (pair_of-insert_same pairs key pair) ∙ le-lt _ e
own_rises pairs key pair false e = tag_cmp_refl (pair_of pairs key).tag

adopt-rises : (pairs : Pairs) (key q : List ℕ) (pair : Pair) → is_le (tag_cmp (pair_of pairs q).tag (pair_of (adopt pairs key pair) q).tag) ≡ true
adopt-rises pairs key q pair =
    let P : List ℕ → Type 0 = λ k. is_le (tag_cmp (pair_of pairs k).tag (pair_of (adopt pairs key pair) k).tag) ≡ true in
    elim (same_key_or_not q key) [
      | inl same ↦ subst P (sym same) (own_rises pairs key pair _ refl)
      | inr apart ↦ ap (λ (p : Pair). is_le (tag_cmp (pair_of pairs q).tag p.tag)) (pair_of-adopt_other pairs key q pair apart) ∙ tag_cmp_refl (pair_of pairs q).tag
    ]

pub pairs_after-rises : (pairs : Pairs) (request : Request) (key : List ℕ) → is_le (tag_cmp (pair_of pairs key).tag (pair_of (pairs_after pairs request) key).tag) ≡ true
pairs_after-rises pairs (Query op k) key = tag_cmp_refl (pair_of pairs key).tag
pairs_after-rises pairs (Put op k tag value) key = adopt-rises pairs k key (record { tag = tag; value = value })
