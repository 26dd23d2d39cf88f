use Rattle.key_monitor.proofs.Candidates.{one_candidate}
use Rattle.key_monitor.proofs.write_laws.the_one_fresh_write_is_the_candidate.Goals as goal

pub returns : goal.returns
returns c part source row place op known writes kept j are of one = one_candidate part source row j known are writes of place op kept one
