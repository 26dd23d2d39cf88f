use Rattle.message_scenes.specs.Shapes.{no_shapes}
use Rattle.message_scenes.proofs.EachRow.{refused_row, rows_tried, unfinished_row}
use Rattle.message_scenes.proofs.laws.each_refused_step_has_its_row.Goals as goal

pub returns : goal.returns
returns c = record { rows = rows_tried no_shapes; refused = refused_row; unfinished = unfinished_row }
