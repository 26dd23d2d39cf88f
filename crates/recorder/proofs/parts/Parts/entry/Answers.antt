use Rattle.std.proofs.Common.{◌<◌, List, [], Some, length, sym, ap, ◌∙◌, arith}
use Rattle.std.proofs.lemmas.Option.{slice_get-get_or}
use Rattle.recorder.specs.declared.part.Call.{Call}
use Rattle.recorder.specs.Records.{KeyedParts}
use Rattle.recorder.proofs.PartLemmas.{length-entries, entry-at}
use Rattle.recorder.proofs.parts.Parts.entry.Goals as goal

pub group-numbers-requires : goal.group-numbers-requires
group-numbers-requires c =
    let s = c.self.inside in
    omega (arith, c.requires, ap (λ (p : KeyedParts). length p.entries) c.self.view_is, length-entries s.from.now s.groups c.self.invariant, c.self.invariant.all)

pub key-requires : goal.key-requires
key-requires c =
    let s = c.self.inside in
    omega (arith, c.requires, ap (λ (p : KeyedParts). length p.entries) c.self.view_is, length-entries s.from.now s.groups c.self.invariant)

pub of-requires : goal.of-requires
of-requires c = c.self.invariant.each c.args.place _ c.group-numbers.ensures

pub returns : goal.returns
returns c =
    let s = c.self.inside in
    let below : c.args.place < length s.from.now.rows.keys = omega (arith, c.requires, ap (λ (p : KeyedParts). length p.entries) c.self.view_is, length-entries s.from.now s.groups c.self.invariant) in
    let key = slice_get-get_or s.from.now.rows.keys c.args.place [] below ∙ ap Some (sym c.key.ensures) in
    rw (← c.self.view_is) (entry-at s.from.now s.groups c.args.place _ _ key c.group-numbers.ensures ∙ ap (λ (p : List Call). Some (c.key.result, p)) (sym c.of.ensures))
