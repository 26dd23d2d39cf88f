use Rattle.std.proofs.Common.{refl}
use Rattle.fault_script.proofs.laws.what_happens_is_a_run.Goals as goal

pub returns : goal.returns
returns c = λ script last events happen. record { events = events; happen = happen; are = refl }
