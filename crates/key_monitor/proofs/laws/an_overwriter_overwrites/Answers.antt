use Rattle.key_monitor.proofs.Meaning.{overwrites_too}
use Rattle.key_monitor.proofs.laws.an_overwriter_overwrites.Goals as goal

pub returns : goal.returns
returns c part source row place end last w known u are z o = overwrites_too part source row known are u place end last w z o
