use Rattle.std.proofs.Common.{arith}
use Rattle.std.proofs.lemmas.Option.{slice_get_within}
use Rattle.tag_check.proofs.notes.Notes.begun_later.Goals as goal

pub returns-in-None-clause-begun : goal.returns-in-None-clause-begun
returns-in-None-clause-begun c = λ j call at. c.begun_within.ensures.begun j call (omega arith) (omega (arith, slice_get_within c.args.self.now.part.now j call at, c.len.ensures.count)) at
