use Rattle.monitored_key.proofs.Passing.{all_forgotten, one_more}
use Rattle.monitored_key.proofs.kept.Kept.forget.Goals as goal

pub each-preserved : goal.each-preserved
each-preserved c =
    one_more c.args.self.now c.each.self c.first_open-place.result c.each.invariant c.first_open-place.ensures c.in-Some.end
    c.forget_one.new.zones c.forget.new.self c.in-Some.ensures c.forget.ensures.fit c.forget.ensures.kept c.forget.ensures.ends

pub returns-clause-follows : goal.returns-clause-follows
returns-clause-follows c =
    all_forgotten c.args.self.now c.each.self c.first_open-place.result c.each.invariant c.first_open-place.ensures c.forget_one.new.zones
    c.in_default.ensures
