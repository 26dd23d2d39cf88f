use Rattle.std.proofs.Common.{sym, ◌∙◌, subst}
use Rattle.std.proofs.lemmas.Result.{err_from_is_err_and}
use Rattle.recorder.specs.declared.row.Row.TheVariants.{Invoke}
use Rattle.split_rows.specs.Splits.{HasSplit}
use Rattle.split_command.proofs.Taking.{answered, taken_by, went}
use Rattle.split_command.proofs.pieces.PiecesTakesRows.invoke.Goals as goal

pub returns-in_err-moved : goal.returns-in_err-moved
returns-in_err-moved g c = λ rows formed h.
    let p = err_from_is_err_and c.from_residual.result c.from_residual.ensures.1 in
    let old = c.args.self.now in
    let row = Invoke c.args.op c.args.client c.args.key.now c.args.action.now in
    let split = c.invoke.ensures.row h.parts rows h.pieces formed (subst (HasSplit h.parts rows h.pieces) (sym h.kept) h.keeps) in
    rw (p.1, p.2) (answered g.W.Write.contents rows old h c.invoke.new.self row c.invoke.result c.in_err-moved.field-0.0
    (sym c.line_answer.ensures ∙ c.in_err-moved.was) split)

pub returns : goal.returns
returns g c = λ rows formed h.
    let old = c.args.self.now in
    let row = Invoke c.args.op c.args.client c.args.key.now c.args.action.now in
    let moved = c.in_ok-moved.moved in
    let split = c.invoke.ensures.row h.parts rows h.pieces formed (subst (HasSplit h.parts rows h.pieces) (sym h.kept) h.keeps) in
    taken_by g.W.Write.contents rows old h c.a_key_is_in_one_piece.ensures formed row moved c.invoke-added.new.self c.end_row.new.self
    c.invoke-added.result c.invoke-added.ensures.count c.invoke-added.ensures.row c.invoke.new.self c.end_row.result
    (went g.W.Write.contents rows old h c.invoke.new.self row c.invoke.result moved (sym c.line_answer.ensures ∙ c.in_ok-moved.was) split)
    c.end_row.ensures
