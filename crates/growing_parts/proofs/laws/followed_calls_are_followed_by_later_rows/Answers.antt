use Rattle.growing_parts.proofs.Staying.{later_row}
use Rattle.growing_parts.proofs.laws.followed_calls_are_followed_by_later_rows.Goals as goal

pub returns : goal.returns
returns c part source row later state le k = later_row part source row later le state k
