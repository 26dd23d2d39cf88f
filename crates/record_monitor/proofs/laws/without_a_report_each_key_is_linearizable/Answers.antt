use Rattle.record_monitor.proofs.Meaning.{unreported_is_linearizable}
use Rattle.record_monitor.proofs.laws.without_a_report_each_key_is_linearizable.Goals as goal

pub returns : goal.returns
returns c = unreported_is_linearizable
