use Rattle.kept_zones.proofs.Steps.{before_from}
use Rattle.kept_zones.proofs.nearest.last_before.Goals as goal

pub returns-in-Some : goal.returns-in-Some
returns-in-Some c =
    let s = c.range.ensures.in_range tt in
    before_from c.args.places.now c.args.place c.in-Some.key.now c.in-Some.value.now (s.3 _ _ c.in-Some.ensures.steps) (s.4 _ _ c.in-Some.ensures.steps)
