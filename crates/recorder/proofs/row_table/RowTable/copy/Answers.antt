use Rattle.std.proofs.Common.{◌∙◌}
use Rattle.recorder.proofs.Tables.{kept-same}
use Rattle.recorder.proofs.row_table.RowTable.copy.Goals as goal

pub invariant_of-result : goal.invariant_of-result
invariant_of-result c = kept-same c.self.inside _ c.self.invariant (c.in_ok-from_slice.ensures.items ∙ c.deref.ensures.value) (c.in_ok-from_slice-2.ensures.items ∙ c.deref-2.ensures.value) c.in_ok-copied_keys.ensures
