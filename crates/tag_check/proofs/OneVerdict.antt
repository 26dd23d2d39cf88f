-- A part has one verdict.
use Rattle.std.proofs.Common.{ℕ, ◌≡◌, ◌≤◌, List, Option, Some, None, inl, inr, refl, ap, sym, ◌∙◌, subst, arith}
use Rattle.std.proofs.lemmas.Option.{same_Some}
use Rattle.tag.specs.declared.numbers.OpId.{OpId}
use Rattle.tag.proofs.SameTags.{same_op}
use Rattle.tag.specs.Tags.{Tag}
use Rattle.recorder.specs.declared.part.Call.{Call}
use Rattle.recorder.specs.Parts.{IsSequence}
use Rattle.tag_check.specs.declared.rule.BrokenRule.{BrokenRule}
use Rattle.tag_check.specs.declared.rule.BrokenRule.TheVariants.{NoNote, LeastTag, SameTag, NotAbove, NoWrite, OtherValue}
use Rattle.std.proofs.lemmas.Bool.{cases_lt}
use Rattle.tag_check.specs.Least.{LacksCall, HasNoPair, HasPartner, IsLeastCall, IsLeastPair}
use Rattle.tag_check.specs.Rules.{LacksNote, IsLeastWrite, ShareTag, IsNotAbove, AnswersNoWrite, AnswersAnother, IsOtherValue, IsValueOf}
use Rattle.tag_check.proofs.Refutations.{refuted}
use Rattle.tag_check.specs.Verdicts.{KeepsRulesBefore, IsBroken, IsTagVerdict}
use Rattle.recorder.proofs.Sequences.{same_call}

-- the least numbered call is one
one_least : (part : List Call) (P : Call → Type 0) (a b : OpId) → IsLeastCall part P a → IsLeastCall part P b → a ≡ b
one_least part P a b x y =
    let number_x : x.call.op.0 ≡ a.0 = ap (λ (o : OpId). o.0) x.number in
    let number_y : y.call.op.0 ≡ b.0 = ap (λ (o : OpId). o.0) y.number in
    let low : a.0 ≤ y.call.op.0 = x.least y.call y.recorded y.has in
    let high : b.0 ≤ x.call.op.0 = y.least x.call x.recorded x.has in
    same_op a b (omega arith)

-- the least numbered pair is one
one_later : (part : List Call) (R : Call → Call → Type 0) (a b c d : OpId) → IsLeastPair part R a b → IsLeastPair part R c d → b ≡ d
one_later part R a b c d x y = one_least part (HasPartner part R) b d x.partnered y.partnered

one_earlier : (part : List Call) → IsSequence part → (R : Call → Call → Type 0) (a b c d : OpId) → IsLeastPair part R a b → IsLeastPair part R c d → a ≡ c
one_earlier part sequence R a b c d x y =
    let number : x.call.op.0 ≡ y.call.op.0 = ap (λ (o : OpId). o.0) (x.number ∙ (one_later part R a b c d x y ∙ sym y.number)) in
    let same : x.call ≡ y.call = same_call part sequence x.call y.call x.recorded y.recorded number in
    one_least part (λ other. R other y.call) a c (subst (λ (z : Call). IsLeastCall part (λ other. R other z) a) same x.partner) y.partner

-- a property that no call has has no least numbered one
none_least : (part : List Call) (P : Call → Type 0) (op : OpId) → LacksCall part P → IsLeastCall part P op → ⊥
none_least part P op none least = none least.call least.recorded least.has

none_pair : (part : List Call) (R : Call → Call → Type 0) (a b : OpId) → HasNoPair part R → IsLeastPair part R a b → ⊥
none_pair part R a b none least = none_least part (HasPartner part R) b none least.partnered

-- the write of a tag is one, where no two share a tag
one_write : (part : List Call) → IsSequence part → HasNoPair part ShareTag → (tag : Tag) (a b : Option OpId) (x y : Option (List ℕ)) → IsValueOf part tag a x → IsValueOf part tag b y → a ≡ b
one_write part sequence none tag None None x y p q = refl
one_write part sequence none tag None (Some b) x y p q = absurd (q.0 p.0)
one_write part sequence none tag (Some a) None x y p q = absurd (p.0 q.0)
one_write part sequence none tag (Some a) (Some b) x y p q =
    let u = p.2 in
    let v = q.2 in
    elim (cases_lt u.write.op.0 v.write.op.0) [
      | inl h ↦ absurd (none v.write v.recorded (u.write, u.recorded, (tag, h, ((p.1, u.writes), u.noted), ((q.1, v.writes), v.noted))))
      | inr h ↦ elim (cases_lt v.write.op.0 u.write.op.0) [
        | inl g ↦ absurd (none u.write u.recorded (v.write, v.recorded, (tag, g, ((q.1, v.writes), v.noted), ((p.1, u.writes), u.noted))))
        | inr g ↦
            let same : u.write ≡ v.write = same_call part sequence u.write v.write u.recorded v.recorded (omega arith) in
            ap Some (sym u.number ∙ (ap (λ (z : Call). z.op) same ∙ v.number))
      ]
    ]

one_other : (part : List Call) → IsSequence part → HasNoPair part ShareTag → (r s : OpId) (a b : Option OpId) → IsOtherValue part r a → IsOtherValue part s b → a ≡ b
one_other part sequence none r s a b x y =
    let read : r ≡ s = one_least part (AnswersAnother part) r s x.first y.first in
    let number : x.call.op.0 ≡ y.call.op.0 = ap (λ (o : OpId). o.0) (x.number ∙ (read ∙ sym y.number)) in
    let same : x.call ≡ y.call = same_call part sequence x.call y.call x.recorded y.recorded number in
    let tags : x.other.tag ≡ y.other.tag = same_Some x.other.tag y.other.tag (sym x.other.noted ∙ (ap (λ (z : Call). z.note) same ∙ y.other.noted)) in
    one_write part sequence none y.other.tag a b x.other.value y.other.value (subst (λ (t : Tag). IsValueOf part t a x.other.value) tags x.other.stands) y.other.stands

-- the first broken rule is one: a later one keeps the earlier
one_rule : (part : List Call) (rule other : BrokenRule) → IsSequence part → KeepsRulesBefore part rule → KeepsRulesBefore part other → IsBroken part rule → IsBroken part other → rule ≡ other
one_rule part (NoNote a) (NoNote c) sequence k l p q = ap NoNote (one_least part LacksNote a c p q)
one_rule part (NoNote a) (LeastTag c) sequence k l p q = absurd (none_least part LacksNote a l p)
one_rule part (NoNote a) (SameTag c d) sequence k l p q = absurd (none_least part LacksNote a l.0 p)
one_rule part (NoNote a) (NotAbove c d) sequence k l p q = absurd (none_least part LacksNote a l.0 p)
one_rule part (NoNote a) (NoWrite c) sequence k l p q = absurd (none_least part LacksNote a l.0 p)
one_rule part (NoNote a) (OtherValue c v) sequence k l p q = absurd (none_least part LacksNote a l.0 p)
one_rule part (LeastTag a) (NoNote c) sequence k l p q = absurd (none_least part LacksNote c k q)
one_rule part (LeastTag a) (LeastTag c) sequence k l p q = ap LeastTag (one_least part IsLeastWrite a c p q)
one_rule part (LeastTag a) (SameTag c d) sequence k l p q = absurd (none_least part IsLeastWrite a l.1 p)
one_rule part (LeastTag a) (NotAbove c d) sequence k l p q = absurd (none_least part IsLeastWrite a l.1 p)
one_rule part (LeastTag a) (NoWrite c) sequence k l p q = absurd (none_least part IsLeastWrite a l.1 p)
one_rule part (LeastTag a) (OtherValue c v) sequence k l p q = absurd (none_least part IsLeastWrite a l.1 p)
one_rule part (SameTag a b) (NoNote c) sequence k l p q = absurd (none_least part LacksNote c k.0 q)
one_rule part (SameTag a b) (LeastTag c) sequence k l p q = absurd (none_least part IsLeastWrite c k.1 q)
one_rule part (SameTag a b) (SameTag c d) sequence k l p q = let earlier : a ≡ c = one_earlier part sequence ShareTag a b c d p q in let later : b ≡ d = one_later part ShareTag a b c d p q in cc
one_rule part (SameTag a b) (NotAbove c d) sequence k l p q = absurd (none_pair part ShareTag a b l.2 p)
one_rule part (SameTag a b) (NoWrite c) sequence k l p q = absurd (none_pair part ShareTag a b l.2 p)
one_rule part (SameTag a b) (OtherValue c v) sequence k l p q = absurd (none_pair part ShareTag a b l.2 p)
one_rule part (NotAbove a b) (NoNote c) sequence k l p q = absurd (none_least part LacksNote c k.0 q)
one_rule part (NotAbove a b) (LeastTag c) sequence k l p q = absurd (none_least part IsLeastWrite c k.1 q)
one_rule part (NotAbove a b) (SameTag c d) sequence k l p q = absurd (none_pair part ShareTag c d k.2 q)
one_rule part (NotAbove a b) (NotAbove c d) sequence k l p q = let earlier : a ≡ c = one_earlier part sequence IsNotAbove a b c d p q in let later : b ≡ d = one_later part IsNotAbove a b c d p q in cc
one_rule part (NotAbove a b) (NoWrite c) sequence k l p q = absurd (none_pair part IsNotAbove a b l.3 p)
one_rule part (NotAbove a b) (OtherValue c v) sequence k l p q = absurd (none_pair part IsNotAbove a b l.3 p)
one_rule part (NoWrite a) (NoNote c) sequence k l p q = absurd (none_least part LacksNote c k.0 q)
one_rule part (NoWrite a) (LeastTag c) sequence k l p q = absurd (none_least part IsLeastWrite c k.1 q)
one_rule part (NoWrite a) (SameTag c d) sequence k l p q = absurd (none_pair part ShareTag c d k.2 q)
one_rule part (NoWrite a) (NotAbove c d) sequence k l p q = absurd (none_pair part IsNotAbove c d k.3 q)
one_rule part (NoWrite a) (NoWrite c) sequence k l p q = ap NoWrite (one_least part (AnswersNoWrite part) a c p q)
one_rule part (NoWrite a) (OtherValue c v) sequence k l p q = absurd (none_least part (AnswersNoWrite part) a l.4 p)
one_rule part (OtherValue a w) (NoNote c) sequence k l p q = absurd (none_least part LacksNote c k.0 q)
one_rule part (OtherValue a w) (LeastTag c) sequence k l p q = absurd (none_least part IsLeastWrite c k.1 q)
one_rule part (OtherValue a w) (SameTag c d) sequence k l p q = absurd (none_pair part ShareTag c d k.2 q)
one_rule part (OtherValue a w) (NotAbove c d) sequence k l p q = absurd (none_pair part IsNotAbove c d k.3 q)
one_rule part (OtherValue a w) (NoWrite c) sequence k l p q = absurd (none_least part (AnswersNoWrite part) c k.4 q)
one_rule part (OtherValue a w) (OtherValue c v) sequence k l p q = let read : a ≡ c = one_least part (AnswersAnother part) a c p.first q.first in let write : w ≡ v = one_other part sequence l.2 a c w v p q in cc

pub one_verdict : (part : List Call) (verdict other : Option BrokenRule) → IsSequence part → IsTagVerdict part verdict → IsTagVerdict part other → verdict ≡ other
one_verdict part None None sequence p q = refl
one_verdict part None (Some rule) sequence p q = absurd (refuted part rule q.1 p)
one_verdict part (Some rule) None sequence p q = absurd (refuted part rule p.1 q)
one_verdict part (Some rule) (Some other) sequence p q = ap Some (one_rule part rule other sequence p.0 q.0 p.1 q.1)
