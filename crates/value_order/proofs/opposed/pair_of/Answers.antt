use Rattle.std.proofs.Common.{◌<◌, Some, refl, length, sym, ◌∙◌, ap, subst, arith}
use Rattle.std.proofs.lemmas.Bool.{false≢true}
use Rattle.std.proofs.lemmas.Option.{slice_get_within, slice_get-get_or}
use Rattle.tag.proofs.Lists.{get_at}
use Rattle.recorder.specs.declared.part.Call.{Call}
use Rattle.value_order.specs.declared.sources.Source.TheVariants as source
use Rattle.value_order.specs.Rows.{EndedAt}
use Rattle.value_order.proofs.CallKinds.{call_at}
use Rattle.value_order.proofs.FirstFaults.{only_is}
use Rattle.value_order.proofs.Pairs.{not_paired, pair_here}
use Rattle.value_order.proofs.opposed.pair_of.Goals as goal

pub returns-in_default : goal.returns-in_default
returns-in_default c call x y at reads ended o =
    let within : c.args.i < length c.args.sources.now = omega (arith, c.requires.inside, c.requires.sources.all) in
    let is = only_is c.args.part.now c.requires.sequence x call _ (c.requires.sources.each c.args.i call _ at (slice_get-get_or c.args.sources.now c.args.i _ within)) reads in
    c.in_default.not-Only is.0 is.1

pub returns-then-not-ends_at : goal.returns-then-not-ends_at
returns-then-not-ends_at c call x y at reads ended o =
    let h = c.ends_at.ensures in
    let same = call_at c.args.part.now c.args.i c.args.i call h.0 at h.1 refl in
    false≢true (sym c.if-not-ends_at.true ∙ h.2.1 (subst (λ (k : Call). EndedAt k c.args.row) same ended))

pub first_crossing-requires : goal.first_crossing-requires
first_crossing-requires c =
    let within : c.args.i < length c.args.sources.now = omega (arith, c.requires.inside, c.requires.sources.all) in
    let call = get_at c.args.part.now c.args.i c.requires.inside in
    let only = c.requires.sources.each c.args.i call.0 (source.Only c.in-Only.family) call.1 (slice_get-get_or c.args.sources.now c.args.i _ within ∙ ap Some c.in-Only.is) in
    omega (arith, slice_get_within c.args.part.now c.in-Only.family only.write only.at, c.requires.zones.all)

pub returns-in_err-other : goal.returns-in_err-other
returns-in_err-other c = rw c.from_residual.ensures (λ call x y at reads ended o.
    let within : c.args.i < length c.args.sources.now = omega (arith, c.requires.inside, c.requires.sources.all) in
    let only = c.requires.sources.each c.args.i call (source.Only c.in-Only.family) at (slice_get-get_or c.args.sources.now c.args.i _ within ∙ ap Some c.in-Only.is) in
    not_paired c.args.part.now c.requires.sequence c.args.row c.args.zones.now c.requires.zones call c.in-Only.family only c.in_err-other.ensures x y reads o)

pub returns : goal.returns
returns c =
    let h = c.ends_at.ensures in
    let within : c.args.i < length c.args.sources.now = omega (arith, c.requires.inside, c.requires.sources.all) in
    let only = c.requires.sources.each c.args.i h.0 (source.Only c.in-Only.family) h.1 (slice_get-get_or c.args.sources.now c.args.i _ within ∙ ap Some c.in-Only.is) in
    pair_here c.args.part.now c.requires.sequence c.args.row c.args.zones.now c.requires.zones h.0 c.in-Only.family only c.args.i c.in_ok-other.other h.1 (h.2.0 c.if-not-ends_at.false) c.in_ok-other.ensures
