use Rattle.key_monitor.proofs.Showing.{late_read}
use Rattle.key_monitor.proofs.row_laws.a_read_of_nothing_after_the_first_show_refutes.Goals as goal

pub returns : goal.returns
returns c before after row place first read last a nothing is less = late_read before after row place last read a nothing first is.0 less
