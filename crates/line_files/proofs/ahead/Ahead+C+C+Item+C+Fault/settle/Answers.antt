use Rattle.std.proofs.Common.{◌≤◌, length, arith}
use Rattle.std.proofs.lemmas.Result.{err_from_is_err_and}
use Rattle.line_files.proofs.ahead.Ahead+C+C+Item+C+Fault.settle.Goals as goal

pub returns-then-not-at_once-clause-goes : goal.returns-then-not-at_once-clause-goes
returns-then-not-at_once-clause-goes g c = λ bytes a.
    let rest = c.args.self.judged.rest in
    let short : length rest.items ≤ 65536 = omega (arith, c.if-len-le-LONGEST.true, c.len.ensures, rest.ok.0) in
    (a, short)

pub returns-in_err-into_feed-clause-goes : goal.returns-in_err-into_feed-clause-goes
returns-in_err-into_feed-clause-goes g c = λ bytes a.
    let p = err_from_is_err_and c.from_residual.result c.from_residual.ensures.1 in
    rw (p.1, p.2) (c.in_err-into_feed.ensures.becomes bytes a)

pub returns-clause-goes : goal.returns-clause-goes
returns-clause-goes g c = λ bytes a. c.of.ensures.stands bytes (c.in_ok-into_feed.ensures.becomes bytes a)
