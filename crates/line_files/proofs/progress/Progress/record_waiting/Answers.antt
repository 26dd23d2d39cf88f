use Rattle.std.proofs.Common.{List, subst}
use Rattle.counted_devices.specs.declared.judgement.Judgement.{Judgement}
use Rattle.line_files.specs.LinesRead.{ReadsShown}
use Rattle.line_files.proofs.progress.Progress.record_waiting.Goals as goal

pub returns-clause-read : goal.returns-clause-read
returns-clause-read g c =
    let P : List (Judgement g.row.C-Item.Denot g.row.C-Fault.Denot) → Type 0 = λ waiting. ReadsShown g.C.Contents.Reads g.C.Contents.rules g.C.Contents.context g.C.Contents.Shows c.args.self.now waiting c.record.result (λ _. c.record.new.self) in
    subst P c.take.ensures c.record.ensures.read
