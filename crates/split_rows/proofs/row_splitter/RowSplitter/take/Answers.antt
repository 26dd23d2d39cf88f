use Rattle.std.proofs.Common.{sym, ◌∙◌}
use Rattle.split_rows.proofs.Splitting.{taken_err, taken_ok}
use Rattle.split_rows.proofs.row_splitter.RowSplitter.take.Goals as goal

pub returns-clause-kept : goal.returns-clause-kept
returns-clause-kept c = taken_ok c.ok_or.result c.self.inside.taken c.args.self.now (sym c.take.ensures.value ∙ c.ok_or.ensures.ok_part)
    c.self.view_is c.self.invariant

pub returns-clause-lost : goal.returns-clause-lost
returns-clause-lost c = taken_err c.ok_or.result c.self.inside.taken c.args.self.now (sym c.take.ensures.value ∙ c.ok_or.ensures.ok_part)
    c.self.view_is
