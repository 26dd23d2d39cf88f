use Rattle.std.proofs.Common.{ℕ, ◌<◌, ◌↔◌, IsTrue, nat_lt, Some, length, sym, ◌∙◌, ap, subst, arith}
use Rattle.std.proofs.lemmas.Bool.{false≢true}
use Rattle.std.proofs.lemmas.Bool.Decides.{nat_tests}
use Rattle.std.proofs.lemmas.Option.{slice_get-get_or}
use Rattle.tag.proofs.Lists.{get_at}
use Rattle.value_order.specs.declared.sources.Source.TheVariants as source
use Rattle.value_order.proofs.SortLists.{source_nothing}
use Rattle.value_order.proofs.nothings.is_late.Goals as goal

less_test : (a b : ℕ) → IsTrue (nat_lt a b) ↔ (a < b)
less_test a b = (λ t. grind (arith, nat_tests), λ less. grind (arith, nat_tests))

pub returns-in_default : goal.returns-in_default
returns-in_default c =
    let call = get_at c.args.part.now c.args.i c.requires.inside in
    let within : c.args.i < length c.args.sources.now = omega (arith, c.requires.inside, c.requires.sources.all) in
    (call.0, call.1, (λ t. absurd (false≢true t), λ h. absurd (c.in_default.not-Nothing (source_nothing c.args.part.now call.0 _ (c.requires.sources.each c.args.i call.0 _ call.1 (slice_get-get_or c.args.sources.now c.args.i _ within)) h.0))))

pub returns : goal.returns
returns c =
    let of = c.places.ensures in
    let within : c.args.i < length c.args.sources.now = omega (arith, c.requires.inside, c.requires.sources.all) in
    let nothing = c.requires.sources.each c.args.i of.0 source.Nothing of.1 (slice_get-get_or c.args.sources.now c.args.i _ within ∙ ap Some c.in-Nothing.is) in
    (of.0, of.1, (λ t. (nothing, subst (λ (p : ℕ). c.args.end < p) of.2.invoked ((less_test c.args.end c.places.result.invoked).0 t)), λ h. (less_test c.args.end c.places.result.invoked).1 (subst (λ (p : ℕ). c.args.end < p) (sym of.2.invoked) h.1)))
