use Rattle.key_monitor.proofs.Opens.{first_open}
use Rattle.key_monitor.proofs.read_laws.the_least_place_is_that_of_the_first_open_read.Goals as goal

pub returns : goal.returns
returns c part row place opens are is = first_open part row place opens are is
