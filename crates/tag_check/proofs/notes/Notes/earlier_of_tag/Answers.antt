use Rattle.std.proofs.Common.{◌≤◌, refl, subst, arith}
use Rattle.std.proofs.lemmas.Option.{none-some}
use Rattle.tag.specs.Tags.{Tag}
use Rattle.tag_check.specs.Writes.{HasWriteAt}
use Rattle.tag_check.proofs.ByTag.{one_tag}
use Rattle.tag_check.proofs.notes.Notes.earlier_of_tag.Goals as goal

pub returns-in_err-tag : goal.returns-in_err-tag
returns-in_err-tag c = rw c.from_residual.ensures (λ tag k write less has. none-some tag ((c.in_err-tag.ensures tag).1 write))

pub returns-in_err-k : goal.returns-in_err-k
returns-in_err-k c =
    let tag = c.in_ok-tag.tag in
    let own = (c.in_ok-tag.ensures tag).0 refl in
    rw c.from_residual-in_err-k.ensures (λ other k write less has.
    c.in_err-k.ensures k (subst (λ (t : Tag). HasWriteAt c.args.self.now.part.now t k) (one_tag c.args.call.now other tag write own) has))

pub returns-then-k-i : goal.returns-then-k-i
returns-then-k-i c = (c.in_ok-tag.tag, (c.in_ok-tag.ensures c.in_ok-tag.tag).0 refl, c.if-k-i.true, c.in_ok-k.ensures)

pub returns-else-k-i : goal.returns-else-k-i
returns-else-k-i c = λ other m write less has.
    let tag = c.in_ok-tag.tag in
    let own = (c.in_ok-tag.ensures tag).0 refl in
    let le : c.in_ok-k.k ≤ m = c.in_ok-k.ensures.1 m (subst (λ (t : Tag). HasWriteAt c.args.self.now.part.now t m) (one_tag c.args.call.now other tag write own) has) in
    omega (arith, le, less, c.if-k-i.false)
