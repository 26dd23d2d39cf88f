use Rattle.std.proofs.Common.{◌+◌, refl, arith}
use Rattle.counted_devices.specs.declared.read_fault.Stop.TheVariants as stop
use Rattle.line_files.proofs.LineByLine.{read_under}
use Rattle.line_files.proofs.Leaving.{leaves_line}
use Rattle.line_files.proofs.progress.Progress.add_judgement.Goals as goal

pub returns-in-Ok-clause-read : goal.returns-in-Ok-clause-read
returns-in-Ok-clause-read g c = λ under line e shown before at.
    let old = c.args.self.now in
    let made = c.in-Ok.ensures.read before line under at.made e (rw c.in-Item.is at shown) (omega (arith, at.counted)) in
    read_under g.C.Contents.Reads g.C.Contents.context under before line old (record { contents = c.follow.new.self; lines = old.lines + 1 }) at e made refl

pub returns-in-Fault-clause-before : goal.returns-in-Fault-clause-before
returns-in-Fault-clause-before g c = λ under line e shown before was.
    leaves_line g.C.Contents.Reads before line c.at.result (stop.Fault c.in-Fault.fault) c.args.self.now.contents (omega (arith, c.at.ensures.line, was.counted)) c.at.ensures.kind was.made

pub returns-in-Err-clause-before : goal.returns-in-Err-clause-before
returns-in-Err-clause-before g c = λ under line e shown before was.
    leaves_line g.C.Contents.Reads before line c.at-in-Err.result c.in-Err.stop c.follow.new.self (omega (arith, c.at-in-Err.ensures.line, was.counted)) c.at-in-Err.ensures.kind (c.in-Err.ensures.kept before was.made)
