use Rattle.std.proofs.Common.{refl}
use Rattle.std.proofs.lemmas.Result.{err_from_is_err_and}
use Rattle.line_files.proofs.FeedLemmas.{stands_for}
use Rattle.line_files.proofs.ahead.Ahead+C+C+Item+C+Fault.into_feed.Goals as goal

pub returns-in_err-rest-clause-becomes : goal.returns-in_err-rest-clause-becomes
returns-in_err-rest-clause-becomes g c = λ bytes a.
    let p = err_from_is_err_and c.from_residual.result c.from_residual.ensures.1 in
    rw (p.1, p.2) (c.in_err-rest.ensures.reads bytes a.at)

pub returns-in_err-rest-clause-stays : goal.returns-in_err-rest-clause-stays
returns-in_err-rest-clause-stays g c = λ bytes s.
    let p = err_from_is_err_and c.from_residual.result c.from_residual.ensures.1 in
    rw (p.1, p.2) (c.in_err-rest.ensures.stays bytes s.0.at s.1)

pub returns-clause-becomes : goal.returns-clause-becomes
returns-clause-becomes g c = λ bytes a. stands_for g.C.Contents.Reads bytes _ (c.in_ok-rest.ensures.reads bytes a.at) a.fed refl
