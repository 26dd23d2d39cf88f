use Rattle.key_monitor.proofs.Showing.{answered_show, shows_none_late}
use Rattle.key_monitor.proofs.row_laws.an_answer_shows_its_value.Goals as goal

pub returns : goal.returns
returns c before after row place call first last a shows is none = (
  answered_show before after row place last call a shows first is,
  shows_none_late before after row place last call a shows none,
)
