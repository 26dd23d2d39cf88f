use Rattle.kept_writers.specs.Written.{Written}
use Rattle.kept_writers.proofs.Emptiness.{begun_some, ended_some}
use Rattle.kept_writers.proofs.writers.Writers.is_empty.Goals as goal

pub returns-then-is_none : goal.returns-then-is_none
returns-then-is_none c =
    let i = c.self.inside in
    let w : Written = record { begins = i.begins.entries; ends = i.ends.entries } in
    rw (← c.self.view_is) (ended_some w c.least.result c.first_end.result c.is_none.result c.is_none-then-is_none.result
    c.is_none.ensures c.if-is_none.true c.is_none-then-is_none.ensures c.least.ensures c.first_end.ensures)

pub returns-else-is_none : goal.returns-else-is_none
returns-else-is_none c =
    let i = c.self.inside in
    let w : Written = record { begins = i.begins.entries; ends = i.ends.entries } in
    rw (← c.self.view_is) (begun_some w c.least.result c.is_none.result c.is_none.ensures c.if-is_none.false c.least.ensures)
