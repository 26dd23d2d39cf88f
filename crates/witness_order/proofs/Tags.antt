-- The order of tags.
use Rattle.std.proofs.Common.{◌≡◌, ◌≢◌, ◌⊎◌, inl, inr, Bool, true, false, nat_eq, eqb-true, ap, refl, arith}
use Rattle.std.proofs.lemmas.Bool.{eqb-false}
use Rattle.std.proofs.lemmas.Grind.{common_steps}
use Rattle.std.specs.declared.cmp.Ordering.TheVariants.{Less}
use Rattle.tag.proofs.SameTags.{same_tag}
use Rattle.tag.specs.Tags.{Tag, IsBelow, least, tag_cmp}

-- a tag that is the other isn't below it
pub not_below : (s t : Tag) → s ≡ t → IsBelow s t → ⊥
not_below s t e below =
    let number : s.number ≡ t.number = ap (λ (x : Tag). x.number) e in
    let writer : s.writer ≡ t.writer = ap (λ (x : Tag). x.writer) e in
    omega arith

-- of two tags at most one is below the other
pub not_both : (s t : Tag) → IsBelow s t → IsBelow t s → ⊥
not_both s t p q = omega arith

least_by : (t : Tag) (a b : Bool) → nat_eq t.number 0 ≡ a → nat_eq t.writer 0 ≡ b → (t ≡ least) ⊎ (t ≢ least)
least_by t true true p q = inl (same_tag t least (eqb-true t.number 0 p) (eqb-true t.writer 0 q))
least_by t true false p q = inr (λ e. eqb-false t.writer 0 q (ap (λ (x : Tag). x.writer) e))
least_by t false b p q = inr (λ e. eqb-false t.number 0 p (ap (λ (x : Tag). x.number) e))

-- a tag is the least one or another
pub least_or_not : (t : Tag) → (t ≡ least) ⊎ (t ≢ least)
least_or_not t = least_by t (nat_eq t.number 0) (nat_eq t.writer 0) refl refl

-- what a comparison says
pub tag_less : (s t : Tag) → tag_cmp s t ≡ Less → IsBelow s t
tag_less s t h = grind (arith, common_steps)
