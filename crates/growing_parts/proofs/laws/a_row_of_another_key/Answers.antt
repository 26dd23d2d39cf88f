use Rattle.growing_parts.proofs.NextParts.{stays}
use Rattle.growing_parts.proofs.laws.a_row_of_another_key.Goals as goal

pub returns : goal.returns
returns c rows key gone part row formed may out is = stays rows formed key gone part is row may out
