use Rattle.recorder.proofs.Recorded.{IsSequence-recorded}
use Rattle.recorder.proofs.laws.a_part_is_a_sequence.Goals as goal

pub returns : goal.returns
returns c rows key part formed p = IsSequence-recorded rows formed key part p.each p.ordered
