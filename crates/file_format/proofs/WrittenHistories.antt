-- The text of a history is read as the history, and as no other one.
use Rattle.std.proofs.Common.{List, None, codes, refl, sym, ap, ◌∙◌, arith}
use Rattle.json.proofs.Printed.Utf8.{IsUtf8-are_ascii}
use Rattle.recorder.specs.declared.row.Row.{Row}
use Rattle.recorder.specs.Histories.{Recorded}
use Rattle.file_format.specs.Readings.{Reads}
use Rattle.file_format.specs.HistoryFormat.{history_format, MakesHistory, IsHistory}
use Rattle.file_format.specs.Ranges.{IsRowInRange, AreRowsInRange}
use Rattle.file_format.specs.ReadAgain.{IsTextOf}
use Rattle.file_format.specs.Rows.{row_in}
use Rattle.file_format.specs.declared.marks.Marks.{Marks}
use Rattle.file_format.specs.Texts.{header_data, marked_data, row_data, history_text}
use Rattle.file_format.proofs.Once.{reads_once}
use Rattle.file_format.proofs.Compact.{read-compact_text}
use Rattle.file_format.proofs.SayingRows.{row_there}
use Rattle.file_format.proofs.WrittenLines.{AreMarks, row_simple, row_depth, row_back, row_length, says_row, line_length}
use Rattle.file_format.proofs.WrittenFiles.{IsGoodLine, header_good, written_reads}

-- a row's line, with any members that it is marked by
pub good_row : (marks : Marks) (row : Row) → AreMarks marks → IsRowInRange row → IsGoodLine row_in (marked_data marks row) row
good_row marks row m h = record {
  simple = row_simple marks row m h;
  short = line_length (marked_data marks row) (row_length marks row m h);
  back = read-compact_text (marked_data marks row) (row_simple marks row m h) (row_depth marks row) (row_back marks row m h);
  meant = row_there (marked_data marks row) row (says_row marks row h);
}

pub history_reads : (rows : List Row) → IsHistory rows → AreRowsInRange rows
    → Reads history_format MakesHistory (history_text rows) (record { rows = rows; limit = 1000000 })
history_reads rows formed ranges =
    written_reads history_format tt (row_data None) MakesHistory (header_data (codes "history")) rows
    (record { rows = rows; limit = 1000000 })
    (header_good (codes "history") (record { text = IsUtf8-are_ascii (codes "history") refl; short = omega arith }))
    (λ k row e. good_row (record { hall = None; line = None }) row (record { hall = tt; line = tt }) (ranges k row e)) formed refl

pub history_text_of : (rows : List Row) → IsHistory rows → AreRowsInRange rows → IsTextOf (history_text rows) rows
history_text_of rows formed ranges =
    let own = history_reads rows formed ranges in
    record {
      read = own;
      alone = λ history read. ap (λ (h : Recorded). h.rows) read.made
          ∙ reads_once history_format MakesHistory (history_text rows) history (record { rows = rows; limit = 1000000 }) read own
          ∙ sym (ap (λ (h : Recorded). h.rows) own.made);
    }
