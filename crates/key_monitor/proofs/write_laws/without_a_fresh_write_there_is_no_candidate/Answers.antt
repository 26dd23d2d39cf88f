use Rattle.key_monitor.proofs.Candidates.{no_candidate}
use Rattle.key_monitor.proofs.write_laws.without_a_fresh_write_there_is_no_candidate.Goals as goal

pub returns : goal.returns
returns c part source row place known writes value j are of none = no_candidate part source row j known are writes of place value none
