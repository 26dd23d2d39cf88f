-- The headers of files without an item, and those that histories tell. Impls of `Body` cite them,
-- so they stand here.
use Rattle.std.specs.Prelude.{◌≡◌, List, [], length}
use Rattle.std.proofs.Common.{refl, ap₂, ◌∙◌, arith}
use Rattle.recorder.specs.Halls.{RecordedHalls}
use Rattle.file_format.specs.declared.file_header.FileHeader.{FileHeader}
use Rattle.file_format.specs.declared.file_header.FileHeader.TheVariants.{Version1, Version2}
use Rattle.file_format.specs.declared.hall_row.HallRow.{HallRow}
use Rattle.file_format.specs.FileHeaders.{halls_in, quorums_in, header_with}
use Rattle.file_format.specs.HistoriesFormat.{histories_format, AreHistories, MakesHistories}
use Rattle.file_format.specs.HistoryFormat.{history_format, IsHistory}
use Rattle.file_format.specs.LongHistories.{long_history_format}
use Rattle.file_format.specs.OrderFormat.{order_format, AreFew}
use Rattle.history_file.specs.Beginnings.{CanBegin}

no_rows : IsHistory []
no_rows = record { formed = λ k row at. absurd (cc); few = omega arith }

pub history_opens : CanBegin history_format
history_opens = record { header = tt; fits = no_rows }

pub long_history_opens : CanBegin long_history_format
long_history_opens = record { header = tt; fits = no_rows.formed }

no_rows_by_hall : AreHistories Version1 []
no_rows_by_hall = record {
  formed = λ hall k row at. absurd (cc);
  placed = λ k item at. absurd (cc);
  few = omega arith;
}

pub histories_open : CanBegin histories_format
histories_open = record { header = Version1; fits = no_rows_by_hall }

no_pieces : AreFew []
no_pieces = record { few = omega arith }

pub orders_open : CanBegin order_format
orders_open = record { header = tt; fits = no_pieces }

header_again : (header : FileHeader) → header_with (halls_in header) (quorums_in header) ≡ header
header_again Version1 = refl
header_again (Version2 halls quorums) = refl

pub halls_tell : (header : FileHeader) (items : List HallRow) (histories : RecordedHalls)
    → MakesHistories header items histories
    → header_with (length histories.halls) histories.quorums ≡ header
halls_tell header items histories made =
    ap₂ header_with made.count made.told ∙ header_again header
