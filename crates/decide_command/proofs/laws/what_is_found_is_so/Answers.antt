use Rattle.decide_command.proofs.Findings.{found_is_so}
use Rattle.decide_command.proofs.laws.what_is_found_is_so.Goals as goal

pub returns : goal.returns
returns c = found_is_so
