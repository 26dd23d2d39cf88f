-- What is written of the rows that were taken.
use Rattle.std.specs.Prelude.{ℕ, ◌≡◌, ◌<◌, ◌+◌, ◌^◌, List, false, Option, Some}
use Rattle.std.specs.Prelude.{length}
use Rattle.recorder.specs.declared.row.Row.{Row}
use Rattle.file_format.specs.NumberedRows.{NumberedRow}
use Rattle.file_format.specs.Texts.{numbered_history_text}
use Rattle.split_rows.specs.declared.taken.Taken.{Taken}
use Rattle.split_rows.specs.Taken.{KeepsRows}
use Rattle.split_command.specs.declared.pieces.Pieces.{Pieces}
use Rattle.split_command.specs.Files.{HoldTexts, file_count}
use Rattle.split_command.specs.PieceTexts.{AreOnLines}

module _ {W : Type 0} (contents : W → Option (List ℕ)) (rows : List Row) where
  -- the pieces, whose rows come from those places, are written, each row with its line
  pub record AreWritten (places : ℕ → ℕ → ℕ) (pieces : ℕ → List Row) (taker : Pieces W) : Type 0
    where
      pub line : taker.line ≡ length rows + 2
      pub numbered : ℕ → List NumberedRow
      pub on_lines : (p : ℕ) → AreOnLines (places p) (pieces p) (numbered p)
      pub texts : HoldTexts contents (λ p. numbered_history_text (numbered p)) taker.files

  -- the rows were taken; their pieces are written, one to each file, unless a file failed
  pub record HasWritten (taker : Pieces W) : Type 0 where
    pub taken : Taken
    pub kept : taker.splitter ≡ Some taken
    pub parts : ℕ
    pub count : file_count taker.files ≡ parts
    pub pieces : ℕ → List Row
    pub keeps : KeepsRows parts rows pieces taken
    pub written : taker.has_failed ≡ false → length rows < 2 ^ 62
        → AreWritten (λ p. (keeps.are.each p).place) pieces taker
