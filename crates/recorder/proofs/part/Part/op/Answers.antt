use Rattle.std.proofs.Common.{◌∙◌, ap, sym}
use Rattle.std.specs.Prelude.{Option}
use Rattle.std.specs.Option.{option_copied}
use Rattle.std.specs.Borrow.{Bor}
use Rattle.recorder.specs.declared.record.Record.{Record}
use Rattle.recorder.specs.PartRecords.{part_of}
use Rattle.recorder.proofs.PartLemmas.{op-shown}
use Rattle.recorder.proofs.part.Part.op.Goals as goal

pub returns : goal.returns
returns c =
    let numbers = c.self.inside.numbers.now in
    op-shown c.in-Some.field-0.now numbers c.args.self.now c.args.place (ap (λ (r : Option (Bor Record)). part_of (option_copied r) numbers) (sym c.in-Some.is) ∙ c.self.view_is) c.requires
