use Rattle.monitored_key.proofs.FirstCalls.{first_write_followed}
use Rattle.monitored_key.proofs.laws.a_first_write_is_followed.Goals as goal

pub returns : goal.returns
returns c part place value call new f wrote h = first_write_followed part place call f value new h wrote
