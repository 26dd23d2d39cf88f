use Rattle.std.proofs.Common.{◌≡◌, refl}
use Rattle.std.proofs.lemmas.Result.{err_from_is_err_and}
use Rattle.recorder.specs.States.{is_write}
use Rattle.open_calls.proofs.Answers.{begin_refused, may_begin, written_kind}
use Rattle.open_calls.proofs.Keeping.{keeps_begun}
use Rattle.open_calls.proofs.open_calls.OpenCalls.begin.Goals as goal

pub returns-in_err-check_begin-clause-row : goal.returns-in_err-check_begin-clause-row
returns-in_err-check_begin-clause-row g c = λ rows key formed keeps.
    let p = err_from_is_err_and c.from_residual.result c.from_residual.ensures.1 in
    rw (p.1, p.2) (begin_refused rows c.args.self.now keeps c.args.op c.args.client key c.args.action.now c.in_err-check_begin.field-0.0 c.in_err-check_begin.ensures.err, refl)

pub returns-in_err-add-clause-row : goal.returns-in_err-add-clause-row
returns-in_err-add-clause-row g c = λ rows key formed keeps.
    let p = err_from_is_err_and c.from_residual-in_err-add.result c.from_residual-in_err-add.ensures.1 in
    rw (p.1, p.2) (may_begin rows c.args.self.now keeps formed c.args.op c.args.client key c.args.action.now c.in_ok-check_begin.ensures.ok, c.in_err-add.ensures.err)

pub returns-clause-row : goal.returns-clause-row
returns-clause-row g c = λ rows key formed keeps.
    let may = c.in_ok-check_begin.ensures.ok in
    let kind : c.is_some.result ≡ is_write c.args.action.now = written_kind c.args.action.now c.written.result c.is_some.result c.is_some.ensures c.written.ensures.read c.written.ensures.write in
    (may_begin rows c.args.self.now keeps formed c.args.op c.args.client key c.args.action.now may, rw (c.in_ok-add.ensures.ok, kind) (keeps_begun rows c.args.self.now keeps formed c.args.op c.args.client key c.args.action.now c.args.payload may.next))
