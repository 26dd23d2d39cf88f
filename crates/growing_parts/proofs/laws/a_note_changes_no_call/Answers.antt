use Rattle.growing_parts.proofs.Staying.{note_changes_none}
use Rattle.growing_parts.proofs.laws.a_note_changes_no_call.Goals as goal

pub returns : goal.returns
returns c rows key gone before op tag formed may is = note_changes_none rows formed key gone before is op tag may
