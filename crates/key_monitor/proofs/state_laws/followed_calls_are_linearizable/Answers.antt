use Rattle.kept_families.proofs.Orders.{free_is_linearizable}
use Rattle.key_monitor.proofs.state_laws.followed_calls_are_linearizable.Goals as goal

pub returns : goal.returns
returns c part source row state f all = free_is_linearizable part source row f.judged.sequence f.judged.last f.judged.sound all
    f.judged.free f.in_time
