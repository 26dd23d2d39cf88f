-- The order of keys: by rank, by family, a write before a read, then by number.
use Rattle.std.proofs.Common.{ℕ, ◌≡◌, ◌<◌, ◌≤◌, ◌⊎◌, inl, inr, Bool, true, false, List, IsSorted, IsPermutation, get_or, nat_eq, ◌∙◌, ap, refl, arith, rules}
use Rattle.std.proofs.lemmas.Grind.{common_steps}
use Rattle.std.proofs.lemmas.Bool.Decides.{nat_tests}
use Rattle.std.proofs.lemmas.Option.{slice_get_within, slice_get-get_or, get_or_from_slice_get}
use Rattle.std.proofs.lemmas.List.Sorted.{ranks_by, sorted_far, Contains-permutation, IsPermutation-sym}
use Rattle.std.proofs.lemmas.Map.Keys.{apart_from_distinct, IsDistinct-from_apart, IsDistinct-IsPermutation}
use Rattle.std.proofs.lemmas.Cmp.{nat_eq_equiv}
use Rattle.std.specs.Cmp.{IsTotalOrder}
use Rattle.std.specs.Cmp.Rules.{comparing}
use Rattle.std.specs.List.{slice_get, IsDistinct}
use Rattle.std.specs.Ordering.{nat_cmp, bool_cmp, ordering_then, ordering_reverse, is_lt}
use Rattle.std.specs.declared.cmp.Ordering.{Ordering}
use Rattle.std.specs.declared.cmp.Ordering.TheVariants.{Less, Equal, Greater}
use Rattle.std.proofs.Common.{Some}
use Rattle.tag.proofs.Lists.{place_of, Contains-slice_get}
use Rattle.value_order.specs.declared.keys.SortKey.{SortKey}
use Rattle.value_order.specs.Keys.{key_cmp, ComesFirst}

pub key_cmp_total : IsTotalOrder key_cmp
key_cmp_total = search (comparing, rules)

-- the first key comes before the second
pub record IsFirst (a b : SortKey) : Type 0 where
  pub less : key_cmp a b ≡ Less

-- what a comparison by two parts says
less_by : (o p : Ordering) → ordering_then o p ≡ Less → (o ≡ Less) ⊎ ((o ≡ Equal) × (p ≡ Less))
less_by Less p h = inl refl
less_by Greater p h = absurd (cc)
less_by Equal p h = inr (refl, h)

same_by : (o p : Ordering) → ordering_then o p ≡ Equal → (o ≡ Equal) × (p ≡ Equal)
same_by Less p h = absurd (cc)
same_by Greater p h = absurd (cc)
same_by Equal p h = (refl, h)

bool_less : (a b : Bool) → bool_cmp a b ≡ Less → (a ≡ false) × (b ≡ true)
bool_less false false h = absurd (cc)
bool_less false true h = (refl, refl)
bool_less true false h = absurd (cc)
bool_less true true h = absurd (cc)

bool_same : (a b : Bool) → bool_cmp a b ≡ Equal → a ≡ b
bool_same false false h = refl
bool_same false true h = absurd (cc)
bool_same true false h = absurd (cc)
bool_same true true h = refl

nat_less : (m n : ℕ) → nat_cmp m n ≡ Less → m < n
nat_less m n h = grind (arith, common_steps)

nat_same : (m n : ℕ) → nat_cmp m n ≡ Equal → m ≡ n
nat_same m n h = grind (arith, common_steps)

pub in_words : (a b : SortKey) → IsFirst a b → ComesFirst a b
in_words a b h =
    elim (less_by (nat_cmp a.rank b.rank) (ordering_then (nat_cmp a.family b.family) (ordering_then (bool_cmp a.is_read b.is_read) (nat_cmp a.index b.index))) h.less) [
      | inl r ↦ inl (nat_less a.rank b.rank r)
      | inr r ↦ inr (
        nat_same a.rank b.rank r.0,
        elim (less_by (nat_cmp a.family b.family) (ordering_then (bool_cmp a.is_read b.is_read) (nat_cmp a.index b.index)) r.1) [
          | inl f ↦ inl (nat_less a.family b.family f)
          | inr f ↦ inr (
            nat_same a.family b.family f.0,
            elim (less_by (bool_cmp a.is_read b.is_read) (nat_cmp a.index b.index) f.1) [
              | inl w ↦ inl (bool_less a.is_read b.is_read w)
              | inr w ↦ inr (bool_same a.is_read b.is_read w.0, nat_less a.index b.index w.1)
            ],
          )
        ],
      )
    ]

key_ext : (a b : SortKey) → a.rank ≡ b.rank → a.family ≡ b.family → a.is_read ≡ b.is_read → a.index ≡ b.index → a ≡ b
key_ext a b p q r s = λ i. record { rank = p i; family = q i; is_read = r i; index = s i }

-- two keys that tie are one
same_key : (a b : SortKey) → key_cmp a b ≡ Equal → a ≡ b
same_key a b h =
    let r = same_by (nat_cmp a.rank b.rank) (ordering_then (nat_cmp a.family b.family) (ordering_then (bool_cmp a.is_read b.is_read) (nat_cmp a.index b.index))) h in
    let f = same_by (nat_cmp a.family b.family) (ordering_then (bool_cmp a.is_read b.is_read) (nat_cmp a.index b.index)) r.1 in
    let w = same_by (bool_cmp a.is_read b.is_read) (nat_cmp a.index b.index) f.1 in
    key_ext a b (nat_same a.rank b.rank r.0) (nat_same a.family b.family f.0) (bool_same a.is_read b.is_read w.0) (nat_same a.index b.index w.1)

-- of two keys one comes first, or they are one
first_of : (a b : SortKey) → IsFirst a b ⊎ (IsFirst b a ⊎ (a ≡ b))
first_of a b = by (key_cmp a b) refl
  where
    by : (o : Ordering) → key_cmp a b ≡ o → IsFirst a b ⊎ (IsFirst b a ⊎ (a ≡ b))
    by Less e = inl (record { less = e })
    by Equal e = inr (inr (same_key a b e))
    by Greater e = inr (inl (record { less = key_cmp_total.antisymm b a ∙ ap ordering_reverse e }))

-- a key that isn't after the other, and has another number, comes first
first_from_test : (a b : SortKey) → is_lt (key_cmp b a) ≡ false → (a.index ≡ b.index → ⊥) → IsFirst a b
first_from_test a b h other =
    elim (first_of a b) [
      | inl f ↦ f
      | inr g ↦ absurd (elim g [
        | inl f ↦ let test : is_lt (key_cmp b a) ≡ true = ap is_lt f.less in cc
        | inr e ↦ other (ap (λ (k : SortKey). k.index) e)
      ])
    ]

-- ---- sorting keys of rising numbers

same_number : SortKey → SortKey → Bool
same_number a b = nat_eq a.index b.index

apart : (a b : SortKey) → a.index < b.index → same_number a b ≡ false
unfolding same_number
apart a b less = grind (arith, nat_tests)

differ : (a b : SortKey) → same_number a b ≡ false → a.index ≡ b.index → ⊥
unfolding same_number
differ a b h e = grind (arith, nat_tests)

-- keys whose numbers rise
abbrev pub NumbersRise : List SortKey → Type 0
NumbersRise made = (i j : ℕ) (a b : SortKey) → i < j → slice_get made i ≡ Some a → slice_get made j ≡ Some b → a.index < b.index

-- the same keys, sorted
pub record AreSorted (made keys : List SortKey) : Type 0 where
  pub each : (i : ℕ) (key : SortKey) → slice_get keys i ≡ Some key → (k : ℕ) × (slice_get made k ≡ Some key)
  pub all : (k : ℕ) (key : SortKey) → slice_get made k ≡ Some key → (i : ℕ) × (slice_get keys i ≡ Some key)
  pub rises : (i j : ℕ) (a b : SortKey) → i < j → slice_get keys i ≡ Some a → slice_get keys j ≡ Some b → ComesFirst a b
  pub apart : (i j : ℕ) (a b : SortKey) → i < j → slice_get keys i ≡ Some a → slice_get keys j ≡ Some b → a.index ≡ b.index → ⊥

module _ (made keys : List SortKey) (rise : NumbersRise made) (moved : IsPermutation made keys) (up : IsSorted key_cmp keys) where
  distinct : IsDistinct same_number made
  distinct = IsDistinct-from_apart same_number made (λ i j d less within.
      let a = get_or made i d in
      let b = get_or made j d in
      apart a b (rise i j a b less (slice_get-get_or made i d (omega arith)) (slice_get-get_or made j d within)))

  other_number : (i j : ℕ) (a b : SortKey) → i < j → slice_get keys i ≡ Some a → slice_get keys j ≡ Some b → a.index ≡ b.index → ⊥
  unfolding same_number
  other_number i j a b less at_i at_j =
      let within = slice_get_within keys j b at_j in
      let other : same_number (get_or keys i a) (get_or keys j a) ≡ false = apart_from_distinct same_number keys i j a (IsDistinct-IsPermutation same_number (λ x y. nat_eq_equiv.symm x.index y.index) made keys moved distinct) less within in
      let left : get_or keys i a ≡ a = get_or_from_slice_get keys i a a at_i in
      let right : get_or keys j a ≡ b = get_or_from_slice_get keys j b a at_j in
      differ a b (rw (left, right) at other)

  pub are_sorted : AreSorted made keys
  are_sorted = record {
    each = λ i key at. place_of made key (Contains-permutation keys made key (IsPermutation-sym made keys moved) (Contains-slice_get keys i key at));
    all = λ k key at. place_of keys key (Contains-permutation made keys key moved (Contains-slice_get made k key at));
    rises = λ i j a b less at_i at_j.
        let within = slice_get_within keys j b at_j in
        let test = sorted_far (λ x y. is_lt (key_cmp x y)) (ranks_by key_cmp_total (λ (k : SortKey). k)) keys up i j a (omega arith) within in
        let left : get_or keys i a ≡ a = get_or_from_slice_get keys i a a at_i in
        let right : get_or keys j a ≡ b = get_or_from_slice_get keys j b a at_j in
        in_words a b (first_from_test a b (rw (left, right) at test) (other_number i j a b less at_i at_j));
    apart = other_number;
  }

-- what comes first ranks no higher
pub rank_at_most : (a b : SortKey) → ComesFirst a b → a.rank ≤ b.rank
rank_at_most a b (inl h) = omega arith
rank_at_most a b (inr h) = let e : a.rank ≡ b.rank = h.0 in omega arith
