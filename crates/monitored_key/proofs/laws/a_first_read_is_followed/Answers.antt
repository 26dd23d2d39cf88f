use Rattle.monitored_key.proofs.FirstCalls.{first_read_followed}
use Rattle.monitored_key.proofs.laws.a_first_read_is_followed.Goals as goal

pub returns : goal.returns
returns c part place number call new f reads h = first_read_followed part place call f number new h reads
