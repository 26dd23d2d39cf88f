use Rattle.std.proofs.lemmas.Result.{err_from_is_err_and}
use Rattle.line_files.proofs.Leaving.{stays_made}
use Rattle.history_file.specs.TakenRows.{MakesLongHistory}
use Rattle.history_file.proofs.TakenLines.{no_line, begun, not_begun}
use Rattle.history_file.proofs.taken_rows.LongHistoryContents.begin.Goals as goal

pub returns-in_err-judge_header-clause-read : goal.returns-in_err-judge_header-clause-read
returns-in_err-judge_header-clause-read g c = λ none before h.
    let p = err_from_is_err_and c.from_residual.result c.from_residual.ensures.1 in
    let old = c.args.self.now in
    rw (p.1, p.2) (not_begun g.T.TakesRows.HasTaken before old h (no_line old.is_headed before none h.headed) c.args.line.now c.in_err-judge_header.field-0.0 c.in_err-judge_header.ensures)

pub returns-in_err-judge_header-clause-kept : goal.returns-in_err-judge_header-clause-kept
returns-in_err-judge_header-clause-kept g c = λ before h.
    let p = err_from_is_err_and c.from_residual.result c.from_residual.ensures.1 in
    rw (p.1, p.2) (stays_made (MakesLongHistory g.T.TakesRows.HasTaken before) c.in_err-judge_header.field-0.0 c.args.self.now h)

pub returns-clause-read : goal.returns-clause-read
returns-clause-read g c = λ none before h.
    let old = c.args.self.now in
    begun g.T.TakesRows.HasTaken before old h (no_line old.is_headed before none h.headed) c.args.line.now c.in_ok-judge_header.ensures
