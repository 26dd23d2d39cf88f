use Rattle.key_monitor.proofs.Showing.{begun_show, begun_none_late}
use Rattle.key_monitor.proofs.row_laws.a_call_that_begins_shows_nothing.Goals as goal

pub returns : goal.returns
returns c before after row place call first last b is none = (
  begun_show before after row place last b.goes b.last first is,
  begun_none_late before after row place last b.goes b.last none,
)
