use Rattle.labels.proofs.Cutting.{shown_between}
use Rattle.labels.proofs.laws.strips_show_what_crosses_them.Goals as goal

pub returns : goal.returns
returns c = shown_between
