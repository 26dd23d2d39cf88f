-- The order of keys: by tag, a write before a read, then by number.
use Rattle.std.proofs.Common.{ℕ, ◌≡◌, ◌<◌, ◌⊎◌, inl, inr, Bool, true, false, ◌∙◌, ap, refl, arith, rules}
use Rattle.std.proofs.lemmas.Grind.{common_steps}
use Rattle.std.specs.Cmp.{IsTotalOrder}
use Rattle.std.specs.Cmp.Rules.{comparing}
use Rattle.std.specs.Ordering.{nat_cmp, bool_cmp, ordering_then, ordering_reverse, is_lt}
use Rattle.std.specs.declared.cmp.Ordering.{Ordering}
use Rattle.std.specs.declared.cmp.Ordering.TheVariants.{Less, Equal, Greater}
use Rattle.tag.specs.Tags.{IsBelow, tag_cmp}
use Rattle.witness_order.specs.declared.sort_key.SortKey.{SortKey}
use Rattle.witness_order.specs.Keys.{key_cmp}
use Rattle.tag.proofs.SameTags.{same_op, tag_from_equal}
use Rattle.witness_order.proofs.Tags.{tag_less}

pub key_cmp_total : IsTotalOrder key_cmp
key_cmp_total = search (comparing, rules)

-- the first key comes before the second
pub record IsFirst (a b : SortKey) : Type 0 where
  pub less : key_cmp a b ≡ Less

-- what a comparison by three parts says
less_by : (o p q : Ordering) → ordering_then o (ordering_then p q) ≡ Less → (o ≡ Less) ⊎ ((o ≡ Equal) × ((p ≡ Less) ⊎ ((p ≡ Equal) × (q ≡ Less))))
less_by Less p q h = inl refl
less_by Greater p q h = absurd (cc)
less_by Equal Less q h = inr (refl, inl refl)
less_by Equal Greater q h = absurd (cc)
less_by Equal Equal q h = inr (refl, inr (refl, h))

same_by : (o p q : Ordering) → ordering_then o (ordering_then p q) ≡ Equal → (o ≡ Equal) × (p ≡ Equal) × (q ≡ Equal)
same_by Less p q h = absurd (cc)
same_by Greater p q h = absurd (cc)
same_by Equal Less q h = absurd (cc)
same_by Equal Greater q h = absurd (cc)
same_by Equal Equal q h = (refl, refl, h)

bool_less : (a b : Bool) → bool_cmp a b ≡ Less → (a ≡ false) × (b ≡ true)
bool_less false false h = absurd (cc)
bool_less false true h = (refl, refl)
bool_less true false h = absurd (cc)
bool_less true true h = absurd (cc)

bool_same : (a b : Bool) → bool_cmp a b ≡ Equal → a ≡ b
bool_same false false h = refl
bool_same false true h = absurd (cc)
bool_same true false h = absurd (cc)
bool_same true true h = refl

nat_less : (m n : ℕ) → nat_cmp m n ≡ Less → m < n
nat_less m n h = grind (arith, common_steps)

nat_same : (m n : ℕ) → nat_cmp m n ≡ Equal → m ≡ n
nat_same m n h = grind (arith, common_steps)

-- in words: by tag, a write before a read of the same tag, then by number
abbrev pub ComesFirst : SortKey → SortKey → Type 0
ComesFirst a b = IsBelow a.tag b.tag ⊎ ((a.tag ≡ b.tag) × (((a.is_read ≡ false) × (b.is_read ≡ true)) ⊎ ((a.is_read ≡ b.is_read) × (a.op.0 < b.op.0))))

pub in_words : (a b : SortKey) → IsFirst a b → ComesFirst a b
in_words a b h =
    elim (less_by (tag_cmp a.tag b.tag) (bool_cmp a.is_read b.is_read) (nat_cmp a.op.0 b.op.0) h.less) [
      | inl t ↦ inl (tag_less a.tag b.tag t)
      | inr t ↦ inr (
        tag_from_equal a.tag b.tag t.0,
        elim t.1 [
          | inl r ↦ inl (bool_less a.is_read b.is_read r)
          | inr r ↦ inr (bool_same a.is_read b.is_read r.0, nat_less a.op.0 b.op.0 r.1)
        ],
      )
    ]

key_ext : (a b : SortKey) → a.tag ≡ b.tag → a.is_read ≡ b.is_read → a.op ≡ b.op → a ≡ b
key_ext a b p q r = λ i. record { tag = p i; is_read = q i; op = r i }

-- two keys that tie are one
same_key : (a b : SortKey) → key_cmp a b ≡ Equal → a ≡ b
same_key a b h =
    let s = same_by (tag_cmp a.tag b.tag) (bool_cmp a.is_read b.is_read) (nat_cmp a.op.0 b.op.0) h in
    key_ext a b (tag_from_equal a.tag b.tag s.0) (bool_same a.is_read b.is_read s.1) (same_op a.op b.op (nat_same a.op.0 b.op.0 s.2))

-- of two keys one comes first, or they are one
pub first_of : (a b : SortKey) → IsFirst a b ⊎ (IsFirst b a ⊎ (a ≡ b))
first_of a b = by (key_cmp a b) refl
  where
    by : (o : Ordering) → key_cmp a b ≡ o → IsFirst a b ⊎ (IsFirst b a ⊎ (a ≡ b))
    by Less e = inl (record { less = e })
    by Equal e = inr (inr (same_key a b e))
    by Greater e = inr (inl (record { less = key_cmp_total.antisymm b a ∙ ap ordering_reverse e }))

pub first_first : (a b c : SortKey) → IsFirst a b → IsFirst b c → IsFirst a c
first_first a b c p q = record { less = key_cmp_total.trans a b c p.less q.less }

-- a key that isn't after the other, and has another number, comes first
pub first_from_test : (a b : SortKey) → is_lt (key_cmp b a) ≡ false → (a.op.0 ≡ b.op.0 → ⊥) → IsFirst a b
first_from_test a b h other =
    elim (first_of a b) [
      | inl f ↦ f
      | inr g ↦ absurd (elim g [
        | inl f ↦ let test : is_lt (key_cmp b a) ≡ true = ap is_lt f.less in cc
        | inr e ↦ other (ap (λ (k : SortKey). k.op.0) e)
      ])
    ]
