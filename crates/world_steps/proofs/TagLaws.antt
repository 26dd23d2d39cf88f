-- The order of tags, and the newer of two pairs.
use Rattle.std.proofs.Common.{◌≡◌, ℕ, ◌<◌, ◌≤◌, ◌⊎◌, Bool, true, false, cond, refl, subst, sym, inl, inr, arith, true≢false}
use Rattle.std.proofs.lemmas.Bool.{false≢true}
use Rattle.std.specs.Cmp.{ranks}
use Rattle.std.specs.Ordering.{MatchOrdering, is_lt, is_eq, nat_cmp, ordering_then}
use Rattle.std.specs.declared.cmp.Ordering.{Ordering}
use Rattle.std.specs.declared.cmp.Ordering.TheVariants.{Less, Equal, Greater}
use Rattle.tag.proofs.Orderings.{equal_from_is_eq}
use Rattle.tag.proofs.SameTags.{same_tag, tag_from_equal}
use Rattle.tag.specs.Tags.{Tag, IsBelow, next_of, tag_cmp}
use Rattle.replica.specs.declared.pairs.Pair.{Pair}
use Rattle.client_phases.specs.Asking.{newer}
use Rattle.world_steps.specs.Sound.{IsNoGreater}

pub at_most_itself : (a : Tag) → IsNoGreater a a
at_most_itself a = grind arith

pub equal_at_most : (a b : Tag) → a ≡ b → IsNoGreater a b
equal_at_most a b e = subst (IsNoGreater a) e (at_most_itself a)

pub at_most_trans : (a b c : Tag) → IsNoGreater a b → IsNoGreater b c → IsNoGreater a c
at_most_trans a b c p q = grind arith

pub at_most_below : (a b : Tag) → IsBelow a b → IsNoGreater a b
at_most_below a b p = grind arith

-- below, or the same
pub at_most_cases : (a b : Tag) → IsNoGreater a b → IsBelow a b ⊎ (a ≡ b)
at_most_cases a b (inl h) = inl (inl h)
at_most_cases a b (inr h) = elim (cases_at_most a.writer b.writer h.1) [ inl less ↦ inl (inr (h.0, less)) | inr same ↦ inr (same_tag a b h.0 same) ]
  where
    cases_at_most : (m n : ℕ) → m ≤ n → (m < n) ⊎ (m ≡ n)
    cases_at_most m n h = grind arith

-- the next tag of a writer is above all that aren't above the tag
pub below_next : (a b : Tag) (name : ℕ) → IsNoGreater a b → IsBelow a (next_of b name)
below_next a b name p = grind arith

pub not_below_itself : (t : Tag) → IsBelow t t → ⊥
not_below_itself t (inl h) = omega arith
not_below_itself t (inr h) = omega arith

-- ---- what a comparison says

-- by the numbers, then by the writers
by_parts : (a b : Tag) (x y : Ordering) → MatchOrdering x (a.number < b.number) (a.number ≡ b.number) (b.number < a.number)
    → MatchOrdering y (a.writer < b.writer) (a.writer ≡ b.writer) (b.writer < a.writer)
    → MatchOrdering (ordering_then x y) (IsBelow a b) (a ≡ b) (IsBelow b a)
by_parts a b Less y p q = inl p
by_parts a b Greater y p q = inl p
by_parts a b Equal Less p q = inr (p, q)
by_parts a b Equal Equal p q = same_tag a b p q
by_parts a b Equal Greater p q = inr (sym p, q)

tag_ranks : (a b : Tag) → MatchOrdering (tag_cmp a b) (IsBelow a b) (a ≡ b) (IsBelow b a)
tag_ranks a b = by_parts a b (nat_cmp a.number b.number) (nat_cmp a.writer b.writer) (ranks a.number b.number) (ranks a.writer b.writer)

less_by : (a b : Tag) (o : Ordering) → MatchOrdering o (IsBelow a b) (a ≡ b) (IsBelow b a) → is_lt o ≡ true → IsBelow a b
less_by a b Less h e = h
less_by a b Equal h e = absurd (false≢true e)
less_by a b Greater h e = absurd (false≢true e)

pub less_is_below : (a b : Tag) → is_lt (tag_cmp a b) ≡ true → IsBelow a b
less_is_below a b e = less_by a b (tag_cmp a b) (tag_ranks a b) e

not_less_by : (a b : Tag) (o : Ordering) → MatchOrdering o (IsBelow a b) (a ≡ b) (IsBelow b a) → is_lt o ≡ false → IsNoGreater b a
not_less_by a b Less h e = absurd (true≢false e)
not_less_by a b Equal h e = equal_at_most b a (sym h)
not_less_by a b Greater h e = at_most_below b a h

pub not_less_at_most : (a b : Tag) → is_lt (tag_cmp a b) ≡ false → IsNoGreater b a
not_less_at_most a b e = not_less_by a b (tag_cmp a b) (tag_ranks a b) e

pub equal_is : (a b : Tag) → is_eq (tag_cmp a b) ≡ true → a ≡ b
equal_is a b e = tag_from_equal a b (equal_from_is_eq (tag_cmp a b) e)

-- ---- the newer pair is one of the two, and its tag isn't below theirs
chosen : (old new : Pair) (b : Bool) → is_lt (tag_cmp old.tag new.tag) ≡ b
    → IsNoGreater old.tag (cond b new old).tag × IsNoGreater new.tag (cond b new old).tag × ((cond b new old ≡ old) ⊎ (cond b new old ≡ new))
chosen old new true e = (at_most_below old.tag new.tag (less_is_below old.tag new.tag e), at_most_itself new.tag, inr refl)
chosen old new false e = (at_most_itself old.tag, not_less_at_most old.tag new.tag e, inl refl)

pub newer_than_old : (old new : Pair) → IsNoGreater old.tag (newer old new).tag
newer_than_old old new = (chosen old new (is_lt (tag_cmp old.tag new.tag)) refl).0

pub newer_than_new : (old new : Pair) → IsNoGreater new.tag (newer old new).tag
newer_than_new old new = (chosen old new (is_lt (tag_cmp old.tag new.tag)) refl).1

pub newer_is : (old new : Pair) → (newer old new ≡ old) ⊎ (newer old new ≡ new)
newer_is old new = (chosen old new (is_lt (tag_cmp old.tag new.tag)) refl).2
