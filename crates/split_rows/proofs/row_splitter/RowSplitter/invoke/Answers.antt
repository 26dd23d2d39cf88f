use Rattle.std.proofs.Common.{refl, subst, sym, ◌∙◌}
use Rattle.std.proofs.lemmas.Option.{none-some}
use Rattle.std.proofs.lemmas.Result.{err_from_is_err_and}
use Rattle.recorder.specs.declared.row.Row.TheVariants.{Invoke}
use Rattle.split_rows.specs.Splits.{HasSplit, left_of}
use Rattle.split_rows.proofs.Splitting.{carried, some_by, splits_by}
use Rattle.split_rows.proofs.row_splitter.RowSplitter.invoke.Goals as goal

pub keep-requires : goal.keep-requires
keep-requires c =
    let k = c.in_ok-taken.ensures.kept.0 in
    some_by c.in_ok-taken.taken c.invoke-answer.new.self k (Invoke c.args.op c.args.client c.args.key.now c.args.action.now) c.invoke-answer.result
    (c.invoke-answer.ensures k.parts k.rows k.pieces k.formed k.keeps)

pub returns-clause-row : goal.returns-clause-row
returns-clause-row c = λ parts rows pieces formed h.
    let row = Invoke c.args.op c.args.client c.args.key.now c.args.action.now in
    let taken = c.in_ok-taken.taken in
    let new = c.invoke-answer.new.self in
    let answer = c.invoke-answer.result in
    let k = subst (HasSplit parts rows pieces) c.in_ok-taken.ensures.kept.1 h in
    carried parts rows pieces row c.args.self.now c.keep.new.self (left_of new answer) taken answer c.keep.result
    c.in_ok-taken.ensures.kept.1 c.keep.ensures.answer c.keep.ensures.kept
    (splits_by parts rows pieces taken new row answer (c.invoke-answer.ensures parts rows pieces formed k))

pub returns-in_err-taken-clause-lost : goal.returns-in_err-taken-clause-lost
returns-in_err-taken-clause-lost c = λ lost.
    let p = err_from_is_err_and c.from_residual.result c.from_residual.ensures.1 in
    rw (p.1, p.2) (refl, c.take.ensures.left)

pub returns-clause-lost : goal.returns-clause-lost
returns-clause-lost c = λ lost. absurd (none-some c.in_ok-taken.taken (sym lost ∙ c.in_ok-taken.ensures.kept.1))
