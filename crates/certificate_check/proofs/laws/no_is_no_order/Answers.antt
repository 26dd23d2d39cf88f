use Rattle.certificate_check.proofs.Faults.{refuted}
use Rattle.certificate_check.proofs.laws.no_is_no_order.Goals as goal

pub returns : goal.returns
returns c = refuted
