use Rattle.key_monitor.proofs.Keeping.{write_writes}
use Rattle.key_monitor.proofs.write_laws.a_write_that_ends_first_has_its_end.Goals as goal

pub returns : goal.returns
returns c before after source row place call w known new writes now kept j a is there number of at unended has keeps = write_writes
    before after source row place call j a known writes of is w there number kept at unended new has now keeps
