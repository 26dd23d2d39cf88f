use Rattle.std.proofs.Common.{◌≢◌, Result, IfErr, refl, subst, sym, ◌∙◌}
use Rattle.std.proofs.lemmas.Option.{none-some}
use Rattle.std.proofs.lemmas.Result.{err_from_is_err_and}
use Rattle.recorder.specs.declared.row.Row.TheVariants.{Respond}
use Rattle.open_calls.specs.declared.refusal.CallRefusal.{CallRefusal}
use Rattle.open_calls.specs.declared.refusal.CallRefusal.TheVariants.{Memory}
use Rattle.split_rows.specs.declared.moved.Moved.{Moved}
use Rattle.split_rows.specs.Splits.{HasSplit, left_of}
use Rattle.split_rows.proofs.Splitting.{carried, some_by, splits_by}
use Rattle.split_rows.proofs.row_splitter.RowSplitter.respond.Goals as goal

pub keep-requires : goal.keep-requires
keep-requires c =
    let k = c.in_ok-taken.ensures.kept.0 in
    some_by c.in_ok-taken.taken c.respond-answer.new.self k (Respond c.args.op c.args.returned.now) c.respond-answer.result
    (c.respond-answer.ensures.row k.parts k.rows k.pieces k.formed k.keeps)

pub returns-clause-row : goal.returns-clause-row
returns-clause-row c = λ parts rows pieces formed h.
    let row = Respond c.args.op c.args.returned.now in
    let taken = c.in_ok-taken.taken in
    let new = c.respond-answer.new.self in
    let answer = c.respond-answer.result in
    let k = subst (HasSplit parts rows pieces) c.in_ok-taken.ensures.kept.1 h in
    carried parts rows pieces row c.args.self.now c.keep.new.self (left_of new answer) taken answer c.keep.result
    c.in_ok-taken.ensures.kept.1 c.keep.ensures.answer c.keep.ensures.kept
    (splits_by parts rows pieces taken new row answer (c.respond-answer.ensures.row parts rows pieces formed k))

pub returns-in_err-taken-clause-lost : goal.returns-in_err-taken-clause-lost
returns-in_err-taken-clause-lost c = λ lost.
    let p = err_from_is_err_and c.from_residual.result c.from_residual.ensures.1 in
    rw (p.1, p.2) (refl, c.take.ensures.left)

pub returns-clause-lost : goal.returns-clause-lost
returns-clause-lost c = λ lost. absurd (none-some c.in_ok-taken.taken (sym lost ∙ c.in_ok-taken.ensures.kept.1))

pub returns-in_err-taken-clause-free : goal.returns-in_err-taken-clause-free
returns-in_err-taken-clause-free c = λ kept. absurd (kept c.in_err-taken.ensures.lost)

pub returns-clause-free : goal.returns-clause-free
returns-clause-free c = λ kept. subst (λ (r : Result Moved CallRefusal). IfErr r (λ refusal. refusal ≢ Memory)) (sym c.keep.ensures.answer)
    c.respond-answer.ensures.free
