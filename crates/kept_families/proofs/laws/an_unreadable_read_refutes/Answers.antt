use Rattle.value_order.specs.Tables.{ReadsBy}
use Rattle.kept_families.proofs.Pieces.{unreadable_refutes}
use Rattle.kept_families.proofs.laws.an_unreadable_read_refutes.Goals as goal

pub returns : goal.returns
returns c part source = unreadable_refutes part (ReadsBy part source)
