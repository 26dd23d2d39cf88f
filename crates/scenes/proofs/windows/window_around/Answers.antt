use Rattle.std.proofs.Common.{ℕ, ◌≡◌, ◌-◌, ◌/◌, min, refl, ap, ◌∙◌, subst}
use Rattle.std.specs.Option.{IfSome}
use Rattle.scenes.proofs.Around.{around_any}
use Rattle.scenes.proofs.windows.window_around.Goals as goal

pub returns : goal.returns
returns c =
    let size = c.min-count.result in
    let at = c.index_of.result in
    let first = c.first_about-first.result in
    let all = c.len-calls.ensures.count in
    around_any c.args.part.now c.args.count size (c.min-count.ensures ∙ ap (min c.args.count) all) c.len-calls.ensures.sequence
    c.args.around at _ c.index_of.ensures.found c.index_of.ensures.none refl
    (subst (λ (calls : ℕ). IfSome at (λ (k : ℕ). first ≡ min (k - size / 2) (calls - size))) all c.first_about-first.ensures.some)
    c.first_about-first.ensures.none
