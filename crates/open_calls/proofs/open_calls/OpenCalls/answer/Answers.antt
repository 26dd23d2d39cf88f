use Rattle.std.proofs.Common.{Bool, ◌≡◌, subst, ◌∙◌, refl}
use Rattle.std.proofs.lemmas.Result.{err_from_is_err_and}
use Rattle.open_calls.specs.Steps.{IsAnswerRefused, is_written}
use Rattle.open_calls.proofs.Answers.{answer_refused, answered_kind, may_answer}
use Rattle.open_calls.proofs.Keeping.{keeps_answered}
use Rattle.open_calls.proofs.open_calls.OpenCalls.answer.Goals as goal

pub returns-in_err-check_answer-clause-row : goal.returns-in_err-check_answer-clause-row
returns-in_err-check_answer-clause-row g c = λ rows keeps.
    let p = err_from_is_err_and c.from_residual.result c.from_residual.ensures.1 in
    let kind : c.is_none.result ≡ is_written c.args.returned.now = answered_kind c.args.returned.now c.answered.result c.is_none.result c.is_none.ensures c.answered.ensures.done c.answered.ensures.read in
    let refused = subst (λ (b : Bool). IsAnswerRefused c.args.self.now c.args.op.0 b c.in_err-check_answer.field-0.0) kind c.in_err-check_answer.ensures.err in
    rw (p.1, p.2) (answer_refused rows c.args.self.now keeps c.args.op c.args.returned.now c.in_err-check_answer.field-0.0 refused, refl)

pub returns-in-Some-clause-row : goal.returns-in-Some-clause-row
returns-in-Some-clause-row g c = λ rows keeps.
    let kind : c.is_none.result ≡ is_written c.args.returned.now = answered_kind c.args.returned.now c.answered.result c.is_none.result c.is_none.ensures c.answered.ensures.done c.answered.ensures.read in
    let m = c.in_ok-check_answer.ensures.ok in
    (may_answer rows c.args.self.now keeps c.args.op c.args.returned.now m.0 (record { is = m.1.is; kind = m.1.kind ∙ kind }), rw c.take.ensures.left (keeps_answered rows c.args.self.now keeps c.args.op c.args.returned.now))
