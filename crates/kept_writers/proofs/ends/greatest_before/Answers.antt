use Rattle.std.proofs.Common.{ℕ, Option, IsSome, sym, subst, refl}
use Rattle.kept_zones.proofs.Steps.{before_from}
use Rattle.kept_writers.proofs.ends.greatest_before.Goals as goal

pub returns-in-Some : goal.returns-in-Some
returns-in-Some c =
    let s = c.range.ensures.in_range tt in
    let b = before_from c.args.ends.now c.args.place c.in-Some.end.now c.in-Some.field-0-1.now (s.3 _ _ c.in-Some.ensures.steps) (s.4 _ _ c.in-Some.ensures.steps) in
    (b.0, subst (λ (o : Option ℕ). IsSome o) (sym b.1) refl, b.2)
