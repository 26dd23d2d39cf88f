use Rattle.growing_parts.proofs.Rows.{formed_next}
use Rattle.growing_parts.proofs.laws.rows_with_one_more_are_well_formed.Goals as goal

pub returns : goal.returns
returns c rows row formed may = formed_next rows row formed may
