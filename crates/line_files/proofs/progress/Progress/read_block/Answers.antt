use Rattle.std.proofs.Common.{ℕ, List, ◌++◌, sym, ◌∙◌, subst}
use Rattle.std.proofs.lemmas.Result.{err_from_is_err_and}
use Rattle.line_files.specs.LinesRead.{LeavesReadIn, ReadsBytes}
use Rattle.line_files.proofs.Advancing.{judged_more}
use Rattle.line_files.proofs.progress.Progress.read_block.Goals as goal

pub returns-in_err-block-clause-reads : goal.returns-in_err-block-clause-reads
returns-in_err-block-clause-reads g c = λ bytes r.
    let p = err_from_is_err_and c.from_residual.result c.from_residual.ensures.1 in
    rw (p.1, p.2) (c.in_err-block.ensures.reads bytes r)

pub returns-in-Ok-clause-reads : goal.returns-in-Ok-clause-reads
returns-in-Ok-clause-reads g c = λ bytes r.
    let front = c.in_ok-block.ensures.reads bytes r in
    let left = c.in_ok-block.block.now in
    let known = c.context.ensures in
    let j = c.in-Ok.ensures.judged front.at.splits.partial (λ none. c.in_ok-block.ensures.begun (sym known ∙ none)) in
    let a = judged_more g.C.Contents.Shows g.C.Contents.Reads g.C.Contents.context front.read left c.take_first.new.rest.items c.take_first.new.self c.context.result c.in-Ok.judged front.at j known in
    let P : List ℕ → Type 0 = λ xs. ReadsBytes g.C.Contents.Reads g.C.Contents.rules xs c.catch_up.result c.catch_up.new.self in
    subst P front.whole (c.catch_up.ensures.reads (front.read ++ left) a)

pub returns-in_err-block-clause-before : goal.returns-in_err-block-clause-before
returns-in_err-block-clause-before g c = λ bytes r.
    let p = err_from_is_err_and c.from_residual.result c.from_residual.ensures.1 in
    rw (p.1, p.2) (c.in_err-block.ensures.before bytes r)

pub returns-in-Ok-clause-before : goal.returns-in-Ok-clause-before
returns-in-Ok-clause-before g c = λ bytes r.
    let front = c.in_ok-block.ensures.reads bytes r in
    let left = c.in_ok-block.block.now in
    let known = c.context.ensures in
    let j = c.in-Ok.ensures.judged front.at.splits.partial (λ none. c.in_ok-block.ensures.begun (sym known ∙ none)) in
    let a = judged_more g.C.Contents.Shows g.C.Contents.Reads g.C.Contents.context front.read left c.take_first.new.rest.items c.take_first.new.self c.context.result c.in-Ok.judged front.at j known in
    let P : List ℕ → Type 0 = λ xs. LeavesReadIn g.C.Contents.Reads xs c.catch_up.result c.catch_up.new.self.contents in
    subst P front.whole (c.catch_up.ensures.before (front.read ++ left) a)
