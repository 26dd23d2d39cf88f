use Rattle.std.proofs.Common.{ap, sym}
use Rattle.monitored_key.specs.Followed.{FollowsWithout}
use Rattle.monitored_key.specs.Held.{Held, state_of}
use Rattle.monitored_key.specs.Kept.{seen}
use Rattle.monitored_key.specs.contracts.monitored_key.MonitoredKey.{the_view}
use Rattle.monitored_key.proofs.Seen.{carried, lost_by, taken}
use Rattle.monitored_key.proofs.monitored_key.MonitoredKey.give_up.Goals as goal
use Rattle.monitored_key.proofs.monitored_key.MonitoredKey.give_up.Goals.{in-Some, in_default}

pub returns-clause-follows : goal.returns-clause-follows
returns-clause-follows c = λ alive. elim c.match-self.branch [
  | in-Some w ↦
      let t = taken c.self.inside.kept w.in-Some.kept c.args.self.now (sym w.in-Some.is) c.self.view_is c.self.invariant in
      carried (λ (a b : Held). FollowsWithout (state_of a) (state_of b) c.args.begin a.next) (seen w.in-Some.kept)
      (seen w.give_up.new.self) c.args.self.now (the_view c.match-self.self-inside) t.1 (ap the_view w.self-inside-is)
      w.give_up.ensures.follows
  | in_default w ↦ absurd (alive (lost_by c.self.inside.kept c.args.self.now (sym w.in_default.is) c.self.view_is))
]
