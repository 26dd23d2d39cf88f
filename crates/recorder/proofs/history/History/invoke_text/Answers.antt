use Rattle.std.proofs.Common.{refl}
use Rattle.std.proofs.lemmas.Result.{err_from_is_err_and}
use Rattle.tag.specs.declared.numbers.OpId.{OpId}
use Rattle.recorder.specs.Histories.{call_count}
use Rattle.recorder.proofs.history.History.invoke_text.Goals as goal

pub returns-in_err-check_begin-clause-row : goal.returns-in_err-check_begin-clause-row
returns-in_err-check_begin-clause-row c =
    let p = err_from_is_err_and c.from_residual.result c.from_residual.ensures.1 in
    let op : OpId = record { 0 = call_count c.args.self.now.rows } in
    rw (p.1, p.2) (c.in_err-check_begin.ensures.err op c.args.key.now c.args.action.now, refl)
