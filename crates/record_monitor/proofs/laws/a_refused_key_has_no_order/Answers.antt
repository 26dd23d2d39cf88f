use Rattle.record_monitor.proofs.Meaning.{refusal_is_final}
use Rattle.record_monitor.proofs.laws.a_refused_key_has_no_order.Goals as goal

pub returns : goal.returns
returns c = refusal_is_final
