use Rattle.std.proofs.Common.{◌≤◌}
use Rattle.kept_zones.proofs.Finding.{by_inner, none_overwrites, not_overwritten}
use Rattle.kept_zones.proofs.Steps.{match_again}
use Rattle.kept_zones.proofs.zones.Zones.overwriter.Goals as goal

pub returns : goal.returns
returns c =
    let i = c.self.inside in
    let high : i.floor ≤ c.args.end = rw (← c.self.view_is) at c.requires in
    rw (← c.self.view_is) (match_again c.begun_after.result c.begun_after.ensures
    (λ p. none_overwrites i.all.entries i.forward.entries i.inner.entries i.floor c.args.end c.args.place c.self.invariant high c.in_default.ensures.0 c.in_default-following.ensures.0 p.0 c.in_default.ensures.1 c.in_default.ensures.2 c.in_default-following.ensures.1 c.in_default-following.ensures.2 p.1 p.2)
    (λ w h. by_inner i.all.entries i.forward.entries i.inner.entries i.floor c.args.end c.args.place c.self.invariant high (w, h.0) h.1 h.2))

pub returns-then-has_no_other : goal.returns-then-has_no_other
returns-then-has_no_other c =
    rw (← c.self.view_is) (not_overwritten c.self.inside.all.entries c.args.end c.args.place (c.has_no_other.ensures c.if-has_no_other.true))
