-- A line that is the one written for a row, for a row of a hall, or for a piece of an order, shows it.
use Rattle.std.proofs.Common.{◌≡◌, ℕ, List, [], ◌∷◌, Option, None, Result, Ok, Err, ap, sym, ◌∙◌, subst}
use Rattle.std.proofs.lemmas.List.{append_cancel_right}
use Rattle.std.specs.Prelude.{IfOk, IfSome, Some}
use Rattle.serde_json.specs.Data.{Data}
use Rattle.serde_json.specs.Written.{compact_text}
use Rattle.recorder.specs.declared.row.Row.{Row}
use Rattle.recorder.specs.declared.order.KeyOrder.{KeyOrder}
use Rattle.counted_devices.specs.Cuts.{with_end}
use Rattle.file_format.specs.declared.fault.LineFault.{LineFault}
use Rattle.file_format.specs.declared.file_header.FileHeader.{FileHeader}
use Rattle.file_format.specs.declared.hall_row.HallRow.{HallRow}
use Rattle.file_format.specs.CanonicalLines.{IsRowLine, IsHallRowLine, IsPieceLine}
use Rattle.file_format.specs.HallRows.{hall_row_in}
use Rattle.file_format.specs.Lines.{LineShows}
use Rattle.file_format.specs.OrderLines.{piece_in}
use Rattle.file_format.specs.Rows.{row_in}
use Rattle.file_format.specs.declared.marks.Marks.{Marks}
use Rattle.file_format.specs.NumberedRows.{NumberedRow}
use Rattle.file_format.specs.Ranges.{IsNumberedInRange}
use Rattle.file_format.specs.RowTexts.{row_bytes}
use Rattle.file_format.specs.Texts.{line_text, piece_data, marked_data, marked_text, numbered_text}
use Rattle.file_format.proofs.Spelling.{compact_row}
use Rattle.file_format.proofs.WrittenFiles.{IsGoodLine, line_of_item}
use Rattle.file_format.proofs.WrittenHistories.{good_row}
use Rattle.file_format.proofs.WrittenHalls.{good_hall_row, placed_marks}
use Rattle.file_format.proofs.WrittenOrders.{good_piece}

-- the bytes of a row's line are those of the line that is written, but for its end
pub row_line : (line : List ℕ) (marks : Marks) (row : Row) → line ≡ row_bytes marks row → with_end line ≡ marked_text marks row
unfolding line_text
row_line line marks row is = ap (λ (l : List ℕ). with_end l) (is ∙ sym (compact_row marks row))

-- a line that is, with its end, the one of a value shows what the value says
line_taken : {X : Type 0} (meaning : Data → Result X LineFault) (line : List ℕ) (d : Data) (thing : X) → with_end line ≡ line_text d
    → IsGoodLine meaning d thing → LineShows meaning line (Ok thing)
unfolding line_text
line_taken meaning line d thing is good =
    subst (λ l. LineShows meaning l (Ok thing)) (sym (append_cancel_right line (compact_text d) (10 ∷ []) is))
    (line_of_item meaning d thing good)

pub row_taken : (line : List ℕ) (row : Row) → IsRowLine line row → LineShows row_in line (Ok row)
row_taken line row h =
    let marks : Marks = record { hall = None; line = h.number } in
    line_taken row_in line (marked_data marks row) row h.text (good_row marks row (record { hall = tt; line = h.numbered }) h.range)

pub numbered_taken : (line : List ℕ) (numbered : NumberedRow) → with_end line ≡ numbered_text numbered → IsNumberedInRange numbered
    → LineShows row_in line (Ok numbered.row)
numbered_taken line numbered text h =
    row_taken line numbered.row (record { number = Some numbered.line; numbered = h.line; text = text; range = h.row })

pub hall_row_taken : (header : FileHeader) (line : List ℕ) (item : HallRow) → IsHallRowLine header line item
    → LineShows (hall_row_in header) line (Ok item)
hall_row_taken header line item h =
    line_taken (hall_row_in header) line (marked_data (placed_marks header item.hall h.number) item.row) item h.text
    (good_hall_row header item h.number h.numbered h.hall h.few h.range)

pub piece_taken : (line : List ℕ) (piece : KeyOrder) → IsPieceLine line piece → LineShows piece_in line (Ok piece)
piece_taken line piece h = line_taken piece_in line (piece_data piece) piece h.text (good_piece piece h.range h.few)

-- what is found shows itself, where what is taken does
pub found_shows : {A E : Type 0} (P Q : A → Type 0) (r : Result (Option A) E) → ((x : A) → P x → Q x) → IfOk r (λ found. IfSome found P)
    → IfOk r (λ found. IfSome found Q)
found_shows P Q (Ok (Some x)) shows h = shows x h
found_shows P Q (Ok None) shows h = h
found_shows P Q (Err e) shows h = h
