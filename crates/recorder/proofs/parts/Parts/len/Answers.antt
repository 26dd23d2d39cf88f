use Rattle.std.proofs.Common.{length, ap, arith}
use Rattle.recorder.specs.Records.{KeyedParts}
use Rattle.recorder.proofs.PartLemmas.{length-entries}
use Rattle.recorder.proofs.parts.Parts.len.Goals as goal

pub returns : goal.returns
returns c =
    let s = c.self.inside in
    omega (arith, c.len.ensures, c.self.invariant.all, length-entries s.from.now s.groups c.self.invariant, ap (λ (p : KeyedParts). length p.entries) c.self.view_is)
