use Rattle.record_monitor.proofs.Meaning.{ordered_before}
use Rattle.record_monitor.proofs.laws.a_key_had_an_order_before_its_refusal.Goals as goal

pub returns : goal.returns
returns c = ordered_before
