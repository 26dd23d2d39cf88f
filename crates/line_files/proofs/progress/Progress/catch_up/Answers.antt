use Rattle.std.proofs.Common.{◌<◌, ◌≤◌, ◌++◌, length, sym, subst, arith}
use Rattle.std.proofs.lemmas.Result.{err_from_is_err_and}
use Rattle.counted_devices.specs.FirstFaults.{FaultSoFar, faults_by}
use Rattle.counted_devices.specs.ReadFaults.{IsFaultBy}
use Rattle.counted_devices.specs.declared.read_fault.FaultKind.{FaultKind}
use Rattle.line_files.proofs.Advancing.{so_far, stays, long_so_far, all_read}
use Rattle.line_files.specs.LinesRead.{HasReadBefore}
use Rattle.line_files.proofs.Leaving.{leaves_in, leaves_long}
use Rattle.line_files.proofs.progress.Progress.catch_up.Goals as goal

pub returns-in_err-record-clause-reads : goal.returns-in_err-record-clause-reads
returns-in_err-record-clause-reads g c = λ bytes a.
    let p = err_from_is_err_and c.from_residual.result c.from_residual.ensures.1 in
    let fault = c.in_err-record.field-0.0 in
    rw (p.1, p.2) (so_far g.C.Contents.rules bytes (a.read ++ a.waiting) c.args.judged.rest.items fault.line fault.kind a.splits (c.in_err-record.ensures.read a.waiting a.shown a.read a.at))

pub returns-in_err-record-clause-stays : goal.returns-in_err-record-clause-stays
returns-in_err-record-clause-stays g c = λ bytes a short.
    let p = err_from_is_err_and c.from_residual.result c.from_residual.ensures.1 in
    let fault = c.in_err-record.field-0.0 in
    rw (p.1, p.2) (stays g.C.Contents.rules bytes (a.read ++ a.waiting) c.args.judged.rest.items fault.line fault.kind a.splits (c.in_err-record.ensures.read a.waiting a.shown a.read a.at))

pub returns-then-len-gt-LONGEST-clause-reads : goal.returns-then-len-gt-LONGEST-clause-reads
returns-then-len-gt-LONGEST-clause-reads g c = λ bytes a.
    let laws = g.met.C.Contents g.world.𝓛 g.world.𝓜 g.world.𝓡 ((λ s x. x), (λ x. x), (λ x. x), λ x. x) in
    let rest = c.args.judged.rest in
    let long : 65536 < length rest.items = omega (arith, c.if-len-gt-LONGEST.true, c.len.ensures, rest.ok.0) in
    let r = all_read g.C.Contents.Shows g.C.Contents.Reads g.C.Contents.context g.C.Contents.rules bytes c.args.self.now c.record.new.self c.args.judged a c.in_ok-record.ensures.read in
    let F : g.row.C-Fault.Denot → Type 0 = λ fault. g.C.Contents.rules.HasFault r.lines rest.items fault in
    let faulty = subst F (sym c.too_long.ensures) (laws.long r.lines c.record.new.self.contents rest.items r.at.made long) in
    let P : FaultKind g.row.C-Fault.Denot → Type 0 = λ k. FaultSoFar (faults_by g.C.Contents.rules) bytes c.at.result.line k in
    subst P (sym c.at.ensures.kind) (long_so_far g.C.Contents.rules bytes r.lines rest.items c.at.result.line c.too_long.result r.splits long (omega (arith, c.at.ensures.line, r.at.counted)) faulty)

pub returns-then-len-gt-LONGEST-clause-stays : goal.returns-then-len-gt-LONGEST-clause-stays
returns-then-len-gt-LONGEST-clause-stays g c = λ bytes a short.
    let rest = c.args.judged.rest in
    absurd (omega (arith, c.if-len-gt-LONGEST.true, c.len.ensures, rest.ok.0, short))

pub returns-clause-reads : goal.returns-clause-reads
returns-clause-reads g c = λ bytes a.
    let rest = c.args.judged.rest in
    let short : length rest.items ≤ 65536 = omega (arith, c.if-len-gt-LONGEST.false, c.len.ensures, rest.ok.0) in
    (all_read g.C.Contents.Shows g.C.Contents.Reads g.C.Contents.context g.C.Contents.rules bytes c.args.self.now c.record.new.self c.args.judged a c.in_ok-record.ensures.read, short)

pub returns-in_err-record-clause-before : goal.returns-in_err-record-clause-before
returns-in_err-record-clause-before g c = λ bytes a.
    let p = err_from_is_err_and c.from_residual.result c.from_residual.ensures.1 in
    let fault = c.in_err-record.field-0.0 in
    rw (p.1, p.2) (leaves_in g.C.Contents.Reads bytes (a.read ++ a.waiting) c.args.judged.rest.items fault.line fault.kind c.record.new.self.contents a.splits (c.in_err-record.ensures.before a.waiting a.shown a.read a.at))

pub returns-then-len-gt-LONGEST-clause-before : goal.returns-then-len-gt-LONGEST-clause-before
returns-then-len-gt-LONGEST-clause-before g c = λ bytes a.
    let rest = c.args.judged.rest in
    let r = all_read g.C.Contents.Shows g.C.Contents.Reads g.C.Contents.context g.C.Contents.rules bytes c.args.self.now c.record.new.self c.args.judged a c.in_ok-record.ensures.read in
    let P : FaultKind g.row.C-Fault.Denot → Type 0 = λ k. IsFaultBy (λ _. HasReadBefore g.C.Contents.Reads bytes c.at.result.line c.record.new.self.contents) ⊥ k in
    subst P (sym c.at.ensures.kind) (leaves_long g.C.Contents.Reads bytes r.lines rest.items c.at.result.line c.record.new.self.contents r.splits (omega (arith, c.at.ensures.line, r.at.counted)) r.at.made)
