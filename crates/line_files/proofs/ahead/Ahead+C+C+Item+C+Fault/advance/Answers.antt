use Rattle.std.proofs.Common.{◌≡◌, ◌++◌, Some, Result, length-append, ◌∙◌, sym, arith, subst}
use Rattle.std.specs.Prelude.{IfOk}
use Rattle.std.proofs.lemmas.Result.{err_from_is_err_and}
use Rattle.counted_devices.specs.declared.read_fault.ReadFault.{ReadFault}
use Rattle.line_files.specs.declared.progress.Progress.{Progress}
use Rattle.line_files.specs.declared.judged_lines.JudgedLines.{JudgedLines}
use Rattle.tag.specs.declared.memory.Memory.{Memory}
use Rattle.counted_devices.specs.Cuts.{HasNoEnd}
use Rattle.line_files.specs.Ahead.{IsJudged}
use Rattle.line_files.specs.LinesRead.{ReadsShown}
use Rattle.line_files.proofs.Advancing.{stays, all_read, judged_more}
use Rattle.line_files.proofs.ahead.Ahead+C+C+Item+C+Fault.advance.Goals as goal

pub returns-in_err-feed-in_default-clause-goes : goal.returns-in_err-feed-in_default-clause-goes
returns-in_err-feed-in_default-clause-goes g c = λ bytes s.
    let p = err_from_is_err_and c.from_residual.result c.from_residual.ensures.1 in
    rw (p.1, p.2) (c.in_err-feed-in_default.ensures.stays bytes s c.args.block.now)

pub returns-in_default-clause-goes : goal.returns-in_default-clause-goes
returns-in_default-clause-goes g c = λ bytes s. c.of.ensures.stands _ (c.in_ok-feed-in_default-2.ensures.fed bytes (c.in_ok-feed-in_default.ensures.becomes bytes s.0))

pub returns-in_err-progress-clause-goes : goal.returns-in_err-progress-clause-goes
returns-in_err-progress-clause-goes g c = λ bytes s.
    let p = err_from_is_err_and c.from_residual-in_err-progress.result c.from_residual-in_err-progress.ensures.1 in
    let old = c.args.self in
    let a = s.0.at in
    let fault = c.in_err-progress.field-0.0 in
    let P : Result (Progress g.row.C.Denot) (ReadFault g.row.C-Fault.Denot) → Type 0 = λ r. ReadsShown g.C.Contents.Reads g.C.Contents.rules g.C.Contents.context g.C.Contents.Shows old.progress old.judged.judgements r (λ (new : Progress g.row.C.Denot). new) in
    let first = subst P c.in_err-progress.was c.join-read.ensures.first.0 a.waiting a.shown a.read a.at in
    rw (p.1, p.2) (stays g.C.Contents.rules bytes (a.read ++ a.waiting) old.judged.rest.items fault.line fault.kind a.splits first c.args.block.now)

pub returns-clause-goes : goal.returns-clause-goes
returns-clause-goes g c = λ bytes s.
    let old = c.args.self in
    let new = c.in_ok-progress.progress in
    let under = c.in-Some.context in
    let P : Result (Progress g.row.C.Denot) (ReadFault g.row.C-Fault.Denot) → Type 0 = λ r. ReadsShown g.C.Contents.Reads g.C.Contents.rules g.C.Contents.context g.C.Contents.Shows old.progress old.judged.judgements r (λ (new : Progress g.row.C.Denot). new) in
    let Q : Result (JudgedLines g.row.C-Item.Denot g.row.C-Fault.Denot) Memory → Type 0 = λ r. IfOk r (λ judged. HasNoEnd old.judged.rest.items → IsJudged g.C.Contents.Shows (Some under) (old.judged.rest.items ++ c.args.block.now) judged) in
    let a = s.0.at in
    let records = subst P c.in_ok-progress.was c.join-read.ensures.first.0 in
    let j = subst Q c.in-Ok.is c.join-read.ensures.second.0 a.splits.partial in
    let r = all_read g.C.Contents.Shows g.C.Contents.Reads g.C.Contents.context g.C.Contents.rules bytes old.progress new old.judged a records in
    let known : Some under ≡ g.C.Contents.context new.contents = c.in-Some.ensures ∙ sym (records a.waiting a.shown a.read a.at).1 in
    c.settle.ensures.goes _ (record {
      at = judged_more g.C.Contents.Shows g.C.Contents.Reads g.C.Contents.context bytes c.args.block.now old.judged.rest.items new (Some under) c.in-Ok.judged r j known;
      fed = omega (arith, s.0.fed, length-append bytes c.args.block.now);
    })
