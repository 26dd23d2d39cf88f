use Rattle.monitored_key.specs.Held.{Held}
use Rattle.key_monitor.specs.Follows.{FollowsKept}
use Rattle.std.proofs.Common.{[], sym, subst}
use Rattle.monitored_key.specs.Held.{state_of}
use Rattle.monitored_key.proofs.Nothing.{no_table, nothing_followed}
use Rattle.monitored_key.proofs.monitored_key.MonitoredKey.new.Goals as goal

pub returns-clause-follows : goal.returns-clause-follows
returns-clause-follows c = λ row.
    subst (λ (h : Held). FollowsKept [] no_table row (state_of h)) (sym c.new.ensures.nothing) (nothing_followed row)
