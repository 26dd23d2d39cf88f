use Rattle.std.proofs.Common.{ℕ, ◌<◌, Option, Some, None, length, ◌∙◌, ap, subst, arith}
use Rattle.std.proofs.lemmas.Bool.{false≢true}
use Rattle.std.proofs.lemmas.Option.{slice_get-get_or}
use Rattle.tag.proofs.Lists.{get_at}
use Rattle.value_order.specs.declared.sources.Source.TheVariants as source
use Rattle.value_order.specs.Ended.{IsFirstWriteEnd}
use Rattle.value_order.proofs.Counting.{stale_test, fresh_nothing, stale_value}
use Rattle.value_order.proofs.counts.is_stale.Goals as goal

pub returns-in-Some : goal.returns-in-Some
returns-in-Some c =
    let of = c.state.ensures in
    let within : c.args.i < length c.args.sources.now = omega (arith, c.requires.inside, c.requires.sources.all) in
    let nothing = c.requires.sources.each c.args.i of.0 source.Nothing of.1 (slice_get-get_or c.args.sources.now c.args.i _ within ∙ ap Some c.in-Nothing.is) in
    let first : IsFirstWriteEnd c.args.part.now (length c.args.part.now) (Some c.in-Some.end) = subst (λ (o : Option ℕ). IsFirstWriteEnd c.args.part.now (length c.args.part.now) o) c.in-Some.is c.requires.first in
    (of.0, of.1, stale_test c.args.part.now of.0 c.in-Some.end c.state.result.invoked nothing of.2.invoked first)

pub returns-in-None : goal.returns-in-None
returns-in-None c =
    let call = get_at c.args.part.now c.args.i c.requires.inside in
    let within : c.args.i < length c.args.sources.now = omega (arith, c.requires.inside, c.requires.sources.all) in
    let nothing = c.requires.sources.each c.args.i call.0 source.Nothing call.1 (slice_get-get_or c.args.sources.now c.args.i _ within ∙ ap Some c.in-Nothing.is) in
    let none : IsFirstWriteEnd c.args.part.now (length c.args.part.now) None = subst (λ (o : Option ℕ). IsFirstWriteEnd c.args.part.now (length c.args.part.now) o) c.in-None.is c.requires.first in
    (call.0, call.1, (λ t. absurd (false≢true t), λ s. absurd (fresh_nothing c.args.part.now call.0 nothing none s)))

pub returns-in_default : goal.returns-in_default
returns-in_default c =
    let call = get_at c.args.part.now c.args.i c.requires.inside in
    let within : c.args.i < length c.args.sources.now = omega (arith, c.requires.inside, c.requires.sources.all) in
    let small : c.args.i < length c.args.found.now = omega (arith, c.requires.inside, c.requires.found.all) in
    let is = c.requires.sources.each c.args.i call.0 _ call.1 (slice_get-get_or c.args.sources.now c.args.i _ within) in
    let o = c.requires.found.each c.args.i call.0 _ call.1 (slice_get-get_or c.args.found.now c.args.i None small) in
    (call.0, call.1, rw c.is_some.ensures (stale_value c.args.part.now call.0 _ _ is c.in_default.not-Nothing o))
