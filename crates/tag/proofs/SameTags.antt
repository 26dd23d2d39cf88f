-- Tags and call numbers by their parts.
use Rattle.std.proofs.Common.{◌≡◌, arith}
use Rattle.std.proofs.lemmas.Grind.{common_steps}
use Rattle.std.specs.declared.cmp.Ordering.TheVariants.{Equal}
use Rattle.tag.specs.Tags.{Tag, tag_cmp}
use Rattle.tag.specs.declared.numbers.OpId.{OpId}

-- a call's number tells it
pub same_op : (a b : OpId) → a.0 ≡ b.0 → a ≡ b
same_op a b e = λ i. record { 0 = e i }

-- a tag is its number and its writer
pub same_tag : (s t : Tag) → s.number ≡ t.number → s.writer ≡ t.writer → s ≡ t
same_tag s t p q = λ i. record { number = p i; writer = q i }

-- tags that compare as equal are one
pub tag_from_equal : (s t : Tag) → tag_cmp s t ≡ Equal → s ≡ t
tag_from_equal s t h =
    let number : s.number ≡ t.number = grind (arith, common_steps) in
    let writer : s.writer ≡ t.writer = grind (arith, common_steps) in
    same_tag s t number writer
