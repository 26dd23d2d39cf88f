use Rattle.std.proofs.Common.{arith}
use Rattle.recorder.proofs.RowCounts.{row_count-few}
use Rattle.recorder.proofs.history.History.row_count.Goals as goal

pub returns-clause-few : goal.returns-clause-few
returns-clause-few c = omega (arith, row_count-few c.self.inside.record.states.items)
