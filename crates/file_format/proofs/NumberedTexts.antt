-- The text of rows with the numbers of their lines is read as a history of the rows, and as no other one.
use Rattle.std.proofs.Common.{List, None, Some, codes, refl, sym, ◌∙◌, arith}
use Rattle.json.proofs.Printed.Utf8.{IsUtf8-are_ascii}
use Rattle.serde_json.specs.Data.{Data}
use Rattle.recorder.specs.Histories.{IsWellFormed}
use Rattle.file_format.specs.LongHistories.{long_history_format, MakesRows}
use Rattle.file_format.specs.NumberedRows.{NumberedRow, rows_alone}
use Rattle.file_format.specs.Ranges.{AreNumberedInRange}
use Rattle.file_format.specs.ReadAgain.{IsTextOfRows}
use Rattle.file_format.specs.Readings.{Reads}
use Rattle.file_format.specs.Texts.{header_data, marked_data, numbered_history_text}
use Rattle.file_format.proofs.Once.{reads_once}
use Rattle.file_format.proofs.WrittenFiles.{header_good, things_read}
use Rattle.file_format.proofs.WrittenHistories.{good_row}

numbered_reads : (numbered : List NumberedRow) → IsWellFormed (rows_alone numbered) → AreNumberedInRange numbered
    → Reads long_history_format MakesRows (numbered_history_text numbered) (rows_alone numbered)
numbered_reads numbered formed ranges =
    let value : NumberedRow → Data = λ each. marked_data (record { hall = None; line = Some each.line }) each.row in
    things_read long_history_format tt value (λ (each : NumberedRow). each.row) MakesRows (header_data (codes "history")) numbered
    (rows_alone numbered)
    (header_good (codes "history") (record { text = IsUtf8-are_ascii (codes "history") refl; short = omega arith }))
    (λ k each e.
    let range = ranges k each e in
    good_row (record { hall = None; line = Some each.line }) each.row (record { hall = tt; line = range.line }) range.row) formed refl

pub numbered_text_of : (numbered : List NumberedRow) → IsWellFormed (rows_alone numbered) → AreNumberedInRange numbered
    → IsTextOfRows (numbered_history_text numbered) (rows_alone numbered)
numbered_text_of numbered formed ranges =
    let text = numbered_history_text numbered in
    let own = numbered_reads numbered formed ranges in
    record {
      read = own;
      alone = λ others read. read.made ∙ reads_once long_history_format MakesRows text others (rows_alone numbered) read own ∙ sym own.made;
    }
