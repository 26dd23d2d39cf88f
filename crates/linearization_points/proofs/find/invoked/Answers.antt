use Rattle.std.proofs.Common.{◌≡◌, ap, ◌∙◌, refl}
use Rattle.recorder.specs.declared.part.Call.{Call}
use Rattle.tag.proofs.Lists.{Contains-slice_get}
use Rattle.linearization_points.proofs.find.invoked.Goals as goal

pub unreachable-requires : goal.unreachable-requires
unreachable-requires c = c.in-None.ensures.none c.requires.0 c.requires.1 c.requires.2

pub returns : goal.returns
returns c =
    let call = c.call.result in
    let found = c.in-Some.ensures.found in
    let same : call ≡ found.0 = cc (c.call.ensures, found.1) in
    let there = Contains-slice_get c.args.part.now c.in-Some.k call c.call.ensures in
    (call, there, ap (λ (x : Call). x.op) same ∙ found.2, refl)
