use Rattle.std.proofs.Common.{ap, ◌∙◌}
use Rattle.recorder.specs.Records.{KeyedParts}
use Rattle.recorder.proofs.PartLemmas.{below-keys, AreEntries-made, AreParts-made}
use Rattle.recorder.proofs.history.History.parts.Goals as goal

pub of-requires-clause-known : goal.of-requires-clause-known
of-requires-clause-known c =
    let h = c.self.inside in
    let r = h.record in
    let same = c.keys-count.ensures.keys ∙ c.keys-keys.ensures.keys in
    let once = rw c.keys-keys.ensures.keys at c.keys-count.ensures.distinct in
    rw (same, c.deref.ensures.value) (below-keys r c.self.invariant.formed c.self.invariant.states c.self.invariant.kept once c.keys-keys.ensures.seen _ c.in_ok-key_numbers.ensures)

pub new-requires : goal.new-requires
new-requires c =
    let h = c.self.inside in
    let r = h.record in
    let same = c.keys-count.ensures.keys ∙ c.keys-keys.ensures.keys in
    let once = rw c.keys-keys.ensures.keys at c.keys-count.ensures.distinct in
    AreEntries-made r c.self.invariant.formed c.self.invariant.states c.self.invariant.kept once c.keys-keys.ensures.seen _ c.in_ok-key_numbers.ensures _ (rw (same, c.deref.ensures.value) at c.in_ok-groups.ensures)

pub returns : goal.returns
returns c =
    let h = c.self.inside in
    let r = h.record in
    let same = c.keys-count.ensures.keys ∙ c.keys-keys.ensures.keys in
    let once = rw c.keys-keys.ensures.keys at c.keys-count.ensures.distinct in
    rw (← c.self.view_is, ap (λ (p : KeyedParts). p.entries) c.new.ensures)
    (AreParts-made r c.self.invariant.formed c.self.invariant.states c.self.invariant.kept once c.keys-keys.ensures.seen _ c.in_ok-key_numbers.ensures _ (rw (same, c.deref.ensures.value) at c.in_ok-groups.ensures))
