use Rattle.labels.proofs.Cutting.{stands_once}
use Rattle.labels.proofs.laws.each_row_stands_in_one_strip.Goals as goal

pub returns : goal.returns
returns c = stands_once
