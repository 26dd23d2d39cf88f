use Rattle.std.proofs.Common.{List, sym, ap, ◌∙◌}
use Rattle.recorder.specs.declared.row.Row.{Row}
use Rattle.recorder.specs.Histories.{Recorded}
use Rattle.file_format.specs.HistoryFormat.{history_format, MakesHistory}
use Rattle.file_format.proofs.Once.{reads_once}
use Rattle.file_format.proofs.laws.bytes_are_read_as_one_history.Goals as goal

abbrev recorded : List Row → Recorded
recorded rows = record { rows = rows; limit = 1000000 }

pub returns : goal.returns
returns c = λ bytes a b h k. h.made ∙ ap recorded (reads_once history_format MakesHistory bytes a b h k) ∙ sym k.made
