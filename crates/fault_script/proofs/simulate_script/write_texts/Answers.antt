use Rattle.std.proofs.Common.{rules}
use Rattle.fault_script.proofs.simulate_script.write_texts.Goals as goal

pub returns-in-Ok-clause-written : goal.returns-in-Ok-clause-written
returns-in-Ok-clause-written g c = search rules

pub returns-in-Err-clause-begun : goal.returns-in-Err-clause-begun
returns-in-Err-clause-begun g c = search rules
