use Rattle.std.proofs.Common.{List, Some, sym, ap, ◌∙◌, arith}
use Rattle.std.proofs.lemmas.Option.{slice_get_within}
use Rattle.tag.proofs.Lists.{Contains-slice_get}
use Rattle.recorder.specs.declared.part.Call.{Call}
use Rattle.recorder.proofs.PartLemmas.{entry-at, no-entry}
use Rattle.recorder.proofs.parts.Parts.get.Goals as goal

pub returns-in_err-number-clause-none : goal.returns-in_err-number-clause-none
returns-in_err-number-clause-none c =
    let s = c.self.inside in
    rw (c.from_residual.ensures, ← c.self.view_is) (no-entry s.from.now s.groups c.args.key.now (rw c.keys.ensures.keys at c.in_err-number.ensures))

pub group-requires : goal.group-requires
group-requires c =
    let number = rw c.keys.ensures.keys at c.in_ok-number.ensures in
    omega (arith, slice_get_within c.self.inside.from.now.rows.keys c.in_ok-number.number c.args.key.now number, c.self.invariant.all)

pub of-requires : goal.of-requires
of-requires c = c.self.invariant.each c.in_ok-number.number _ c.group.ensures

pub returns-clause-some : goal.returns-clause-some
returns-clause-some c =
    let s = c.self.inside in
    let number = rw c.keys.ensures.keys at c.in_ok-number.ensures in
    let at = entry-at s.from.now s.groups c.in_ok-number.number c.args.key.now _ number c.group.ensures ∙ ap (λ (p : List Call). Some (c.args.key.now, p)) (sym c.of.ensures) in
    rw (← c.self.view_is) (Contains-slice_get _ c.in_ok-number.number _ at)
