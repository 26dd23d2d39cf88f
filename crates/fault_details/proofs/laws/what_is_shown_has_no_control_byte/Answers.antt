use Rattle.fault_details.proofs.PlainBytes.{plain_ok}
use Rattle.fault_details.proofs.laws.what_is_shown_has_no_control_byte.Goals as goal

pub returns : goal.returns
returns c = plain_ok 0
