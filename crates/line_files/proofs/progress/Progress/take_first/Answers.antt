use Rattle.std.proofs.Common.{◌≡◌, ◌++◌, take, ◌∙◌}
use Rattle.std.proofs.lemmas.Result.{err_from_is_err_and}
use Rattle.line_files.proofs.Advancing.{first_ended, first_stops, first_leaves}
use Rattle.line_files.proofs.progress.Progress.take_first.Goals as goal

pub returns-in_err-read_alone-clause-reads : goal.returns-in_err-read_alone-clause-reads
returns-in_err-read_alone-clause-reads g c = λ bytes r.
    let p = err_from_is_err_and c.from_residual.result c.from_residual.ensures.1 in
    let fault = c.in_err-read_alone.field-0.0 in
    let line : c.as_slice.result.now ≡ c.args.rest.now.items ++ take c.in-Some.end c.args.block.now = c.as_slice.ensures.value ∙ c.in-Ok.ensures.items in
    rw (p.1, p.2) (first_stops g.C.Contents.Reads bytes c.args.block.now c.args.rest.now.items c.as_slice.result.now c.in-Some.end c.in-Some.ensures.0 c.in-Some.ensures.1 c.in-Some.ensures.2 line c.args.self.now r g.C.Contents.rules fault.line fault.kind (c.in_err-read_alone.ensures.read r.lines r.at))

pub returns-clause-reads : goal.returns-clause-reads
returns-clause-reads g c = λ bytes r.
    let line : c.as_slice.result.now ≡ c.args.rest.now.items ++ take c.in-Some.end c.args.block.now = c.as_slice.ensures.value ∙ c.in-Ok.ensures.items in
    first_ended g.C.Contents.Reads bytes c.args.block.now c.args.rest.now.items c.as_slice.result.now c.in-Some.end c.in-Some.ensures.0 c.in-Some.ensures.1 c.in-Some.ensures.2 line c.args.self.now r c.read_alone.new.self c.clear.new.self.items c.clear.ensures.items (c.in_ok-read_alone.ensures.read r.lines r.at)

pub returns-in_err-read_alone-clause-before : goal.returns-in_err-read_alone-clause-before
returns-in_err-read_alone-clause-before g c = λ bytes r.
    let p = err_from_is_err_and c.from_residual.result c.from_residual.ensures.1 in
    let fault = c.in_err-read_alone.field-0.0 in
    let line : c.as_slice.result.now ≡ c.args.rest.now.items ++ take c.in-Some.end c.args.block.now = c.as_slice.ensures.value ∙ c.in-Ok.ensures.items in
    rw (p.1, p.2) (first_leaves g.C.Contents.Reads bytes c.args.block.now c.args.rest.now.items c.as_slice.result.now c.in-Some.end c.in-Some.ensures.0 c.in-Some.ensures.1 c.in-Some.ensures.2 line c.args.self.now r fault.line fault.kind c.read_alone.new.self.contents (c.in_err-read_alone.ensures.before r.lines r.at))
