use Rattle.recorder.proofs.Numbers.{one_pending}
use Rattle.recorder.proofs.laws.a_client_has_one_pending_call.Goals as goal

pub returns : goal.returns
returns c rows client a b x y formed p q = one_pending rows formed client a b x y p q
