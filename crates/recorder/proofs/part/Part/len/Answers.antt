use Rattle.std.specs.Option.{option_copied}
use Rattle.recorder.proofs.PartLemmas.{sequence_of}
use Rattle.recorder.proofs.part.Part.len.Goals as goal

pub returns-clause-sequence : goal.returns-clause-sequence
returns-clause-sequence c = rw (← c.self.view_is) (sequence_of (option_copied c.self.inside.from) c.self.inside.numbers.now c.self.invariant)
