use Rattle.kept_families.proofs.Orders.{free_is_linearizable}
use Rattle.kept_families.proofs.laws.a_free_table_is_linearizable.Goals as goal

pub returns : goal.returns
returns c = free_is_linearizable
