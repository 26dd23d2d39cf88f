use Rattle.std.proofs.Common.{sym, ◌∙◌}
use Rattle.recorder.proofs.PartLemmas.{entries-keys}
use Rattle.recorder.proofs.parts.Parts.numbers.Goals as goal

pub returns : goal.returns
returns c =
    let s = c.self.inside in
    rw (← c.self.view_is) (c.keys.ensures.keys ∙ sym (entries-keys s.from.now s.groups c.self.invariant))
