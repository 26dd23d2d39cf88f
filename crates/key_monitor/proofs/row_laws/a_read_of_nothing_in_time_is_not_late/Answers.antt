use Rattle.key_monitor.proofs.Showing.{silent, silent_show, in_time_none_late}
use Rattle.key_monitor.proofs.row_laws.a_read_of_nothing_in_time_is_not_late.Goals as goal

pub returns : goal.returns
returns c before after row place read first last a nothing is time none = (
  silent_show before after row place last read a (silent read
      nothing) first is,
  in_time_none_late before after row place last read a first is time none,
)
