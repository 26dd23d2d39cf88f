use Rattle.std.proofs.Common.{ap, sym, ◌∙◌, arith}
use Rattle.std.proofs.lemmas.Bool.{false≢true}
use Rattle.std.proofs.lemmas.Option.{same_Some, slice_get_within}
use Rattle.tag.proofs.Lists.{item_at}
use Rattle.tag_check.proofs.ByTag.{Entry, index_found, index_missing}
use Rattle.tag_check.proofs.notes.Notes.index_of.Goals as goal

pub returns-in_err-noted : goal.returns-in_err-noted
returns-in_err-noted c =
    let p = c.first_place-place.result in
    rw c.from_residual.ensures (index_missing c.args.self.now.part.now c.args.writes.now c.requires c.args.tag p c.first_place-place.ensures
    (λ e there same. omega (arith, slice_get_within c.args.writes.now p e there, c.in_err-noted.ensures.lookup.3)))

pub returns-then-is_same : goal.returns-then-is_same
returns-then-is_same c =
    let e = c.in_ok-noted.field-0.now in
    let found = c.in_ok-noted.ensures.lookup in
    let at = item_at c.args.writes.now c.first_place-place.result e found.3.0 found.1 in
    index_found c.args.self.now.part.now c.args.writes.now c.requires c.args.tag c.first_place-place.result e c.first_place-place.ensures at (c.is_same.ensures.0 c.if-is_same.true)

pub returns-else-is_same : goal.returns-else-is_same
returns-else-is_same c =
    let found = c.in_ok-noted.ensures.lookup in
    index_missing c.args.self.now.part.now c.args.writes.now c.requires c.args.tag c.first_place-place.result c.first_place-place.ensures (λ e there same.
    let one = same_Some c.in_ok-noted.field-0.now e (sym (item_at c.args.writes.now c.first_place-place.result c.in_ok-noted.field-0.now found.3.0 found.1) ∙ there) in
    false≢true (sym c.if-is_same.false ∙ c.is_same.ensures.1 (ap (λ (x : Entry). x.0) one ∙ same)))
