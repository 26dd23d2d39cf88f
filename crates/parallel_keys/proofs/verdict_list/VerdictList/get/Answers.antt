use Rattle.std.proofs.Common.{◌<◌, ◌≤◌, subst, List, Some, length, refl, sym, ap, ◌∙◌, arith}
use Rattle.std.specs.Option.{option_map}
use Rattle.std.proofs.lemmas.List.{length-map}
use Rattle.std.proofs.lemmas.Option.{slice_get-map, slice_get_read}
use Rattle.certificate_check.specs.declared.verdict.Fault.{Fault}
use Rattle.parallel_keys.specs.VerdictLists.{verdict_of}
use Rattle.parallel_keys.proofs.verdict_list.VerdictList.get.Goals as goal

pub index-requires : goal.index-requires
index-requires c =
    let own = c.self.inside in
    omega (arith, c.requires, ap length c.self.view_is, length-map own.marks.items (verdict_of own.faults.items))

pub verdict_of-requires : goal.verdict_of-requires
verdict_of-requires c =
    let marks = c.self.inside.marks.items in
    let below : c.args.place < length marks = omega (arith, c.requires, ap length c.self.view_is, length-map marks (verdict_of c.self.inside.faults.items)) in
    subst (λ (fs : List Fault). c.index.result.now ≤ length fs) (sym c.as_slice.ensures.value)
    (c.self.invariant c.args.place c.index.result.now (slice_get_read marks (length marks) c.args.place c.index.result.now refl below c.index.ensures))

pub returns : goal.returns
returns c =
    let marks = c.self.inside.marks.items in
    let verdict = verdict_of c.self.inside.faults.items in
    let below : c.args.place < length marks = omega (arith, c.requires, ap length c.self.view_is, length-map marks verdict) in
    let at = slice_get_read marks (length marks) c.args.place c.index.result.now refl below c.index.ensures in
    rw (← c.self.view_is) (slice_get-map verdict marks c.args.place ∙ ap (option_map verdict) at ∙ ap Some (ap (λ (fs : List Fault). verdict_of fs c.index.result.now) (sym c.as_slice.ensures.value) ∙ sym c.verdict_of.ensures))
