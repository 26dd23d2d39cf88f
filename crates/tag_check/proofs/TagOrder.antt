-- The order of tags.
use Rattle.std.proofs.Common.{◌≡◌, ◌⊎◌, inl, inr, refl, ap, sym, subst, arith}
use Rattle.std.proofs.lemmas.Bool.{cases_lt}
use Rattle.tag.proofs.SameTags.{same_tag}
use Rattle.tag.specs.Tags.{Tag, IsBelow, least}
use Rattle.tag_check.specs.Greatest.{IsAtMost}

-- of two tags one is below the other, or they are one
pub tag_cases : (s t : Tag) → IsBelow s t ⊎ IsAtMost t s
tag_cases s t =
    elim (cases_lt s.number t.number) [
      | inl h ↦ inl (inl h)
      | inr h ↦ elim (cases_lt t.number s.number) [
        | inl g ↦ inr (inl (inl g))
        | inr g ↦
            let number : s.number ≡ t.number = omega arith in
            elim (cases_lt s.writer t.writer) [
              | inl a ↦ inl (inr (number, a))
              | inr a ↦ elim (cases_lt t.writer s.writer) [
                | inl b ↦ inr (inl (inr (sym number, b)))
                | inr b ↦ inr (inr (same_tag t s (sym number) (omega arith)))
              ]
            ]
      ]
    ]

-- a tag isn't below one that is no greater
pub not_below : (s t : Tag) → IsAtMost s t → IsBelow t s → ⊥
not_below s t (inl p) below = omega arith
not_below s t (inr e) below =
    let number : s.number ≡ t.number = ap (λ (x : Tag). x.number) e in
    let writer : s.writer ≡ t.writer = ap (λ (x : Tag). x.writer) e in
    omega arith

-- any other tag is above the least
pub above_least : (t : Tag) → (t ≡ least → ⊥) → IsBelow least t
above_least t other =
    elim (tag_cases least t) [
      | inl h ↦ h
      | inr h ↦ elim h [ inl p ↦ absurd (omega arith) | inr e ↦ absurd (other e) ]
    ]

-- what is below a tag is below a greater one
pub below_at_most : (s t u : Tag) → IsBelow s t → IsAtMost t u → IsBelow s u
below_at_most s t u p (inr e) = subst (λ (x : Tag). IsBelow s x) e p
below_at_most s t u p (inl q) =
    elim (tag_cases s u) [
      | inl h ↦ h
      | inr h ↦ elim h [
        | inl r ↦ absurd (omega arith)
        | inr e ↦
            let number : u.number ≡ s.number = ap (λ (x : Tag). x.number) e in
            let writer : u.writer ≡ s.writer = ap (λ (x : Tag). x.writer) e in
            absurd (omega arith)
      ]
    ]

-- what is no greater than one that is no greater
pub at_most_trans : (s t u : Tag) → IsAtMost s t → IsAtMost t u → IsAtMost s u
at_most_trans s t u (inr e) q = subst (λ (x : Tag). IsAtMost x u) (sym e) q
at_most_trans s t u (inl p) (inr e) = subst (λ (x : Tag). IsAtMost s x) e (inl p)
at_most_trans s t u (inl p) (inl q) = inl (below_at_most s t u p (inl q))

-- what is no greater than one that is below
pub at_most_below : (s t u : Tag) → IsAtMost s t → IsBelow t u → IsBelow s u
at_most_below s t u (inr e) q = subst (λ (x : Tag). IsBelow x u) (sym e) q
at_most_below s t u (inl p) q = below_at_most s t u p (inl q)

pub below_trans : (s t u : Tag) → IsBelow s t → IsBelow t u → IsBelow s u
below_trans s t u p q = below_at_most s t u p (inl q)

-- no tag is below itself
pub below_itself : (t : Tag) → IsBelow t t → ⊥
below_itself t below = not_below t t (inr refl) below
