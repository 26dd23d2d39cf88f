-- A file has fewer rows than bytes.
use Rattle.std.proofs.Common.{ℕ, ◌<◌, ◌≤◌, ◌+◌, ◌^◌, List, [], ◌∷◌, length, length-append, ap, ◌∙◌, arith}
use Rattle.std.specs.List.{flat_map}
use Rattle.std.proofs.lemmas.Slice.Zip.{AllZip-long}
use Rattle.counted_devices.specs.Cuts.{last_lines, with_end}
use Rattle.recorder.specs.declared.row.Row.{Row}
use Rattle.file_format.specs.Files.{AreSpelled, IsLineOf}
use Rattle.file_format.specs.LongHistories.{long_history_format}
use Rattle.history_file.specs.TakenRows.{AreRowsOfFile}

ends_long : (lines : List (List ℕ)) → length lines ≤ length (flat_map with_end lines)
ends_long [] = omega arith
ends_long (line ∷ lines) =
    let whole = length-append (with_end line) (flat_map with_end lines) in
    let one = length-append line (10 ∷ []) in
    omega (arith, whole, one, ends_long lines)

last_long : (lines : List (List ℕ)) (rest : List ℕ) → length (last_lines lines rest) ≤ length lines + length rest
last_long lines [] = omega arith
last_long lines (b ∷ rest) = omega (arith, length-append lines ((b ∷ rest) ∷ []))

spelled_long : (lines : List (List ℕ)) (rows : List Row) → 0 < length lines → AreSpelled long_history_format lines tt rows
    → length rows < length lines
spelled_long [] rows some h = absurd (omega (arith, some))
spelled_long (first ∷ lines) rows some h = omega (arith, AllZip-long (IsLineOf long_history_format tt) lines rows h.1)

pub few_rows : (bytes : List ℕ) (rows : List Row) → AreRowsOfFile bytes rows → length bytes ≤ 2 ^ 62 → length rows < 2 ^ 62
few_rows bytes rows file few =
    let whole = ap length file.splits.whole ∙ length-append (flat_map with_end file.lines) file.rest in
    let long = ends_long file.lines in
    let last = last_long file.lines file.rest in
    let items = spelled_long (last_lines file.lines file.rest) file.items file.some file.read.spelled in
    let made = ap length file.made in
    omega (arith, few, whole, long, last, items, made)
