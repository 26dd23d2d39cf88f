use Rattle.record_monitor.proofs.Meaning.{undoubted_is_linearizable}
use Rattle.record_monitor.proofs.laws.a_key_without_a_doubt_is_linearizable.Goals as goal

pub returns : goal.returns
returns c = undoubted_is_linearizable
