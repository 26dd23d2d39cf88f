use Rattle.key_monitor.proofs.Candidates.{without_write}
use Rattle.key_monitor.proofs.write_laws.the_write_of_a_forgotten_zone_may_go.Goals as goal

pub returns : goal.returns
returns c part source row op end known new writes now kept write j are of at ends first forgotten lacks without = without_write part
    source row j known are writes of op end kept write at ends first forgotten new lacks now without
