use Rattle.std.proofs.Common.{arith}
use Rattle.line_files.proofs.Leaving.{leaves_line}
use Rattle.line_files.proofs.progress.Progress.read_alone.Goals as goal

pub returns-in-Err-clause-before : goal.returns-in-Err-clause-before
returns-in-Err-clause-before g c = λ before was.
    leaves_line g.C.Contents.Reads before c.args.line.now c.at.result c.in-Err.stop c.begin.new.self (omega (arith, c.at.ensures.line, was.counted)) c.at.ensures.kind (c.in-Err.ensures.kept before was.made)
