-- The files of pieces while they are written.
use Rattle.std.specs.Prelude.{ℕ, List, Option, length}
use Rattle.file_format.specs.NumberedRows.{NumberedRow}
use Rattle.file_format.specs.Ranges.{IsNumberedInRange}
use Rattle.file_format.specs.Texts.{numbered_text}
use Rattle.split_command.specs.declared.piece_files.PieceFiles.{PieceFiles}
use Rattle.split_command.specs.PieceTexts.{AreBegun, IsLonger}

-- how many files there are
abbrev pub file_count : {W : Type 0} → PieceFiles W → ℕ
file_count files = length files.writers.items

module _ {W : Type 0} (contents : W → Option (List ℕ)) where
  -- the texts went out to the files, but for what waits
  abbrev pub HoldTexts : (ℕ → List ℕ) → PieceFiles W → Type 0
  HoldTexts texts files = AreBegun contents texts files.writers.items files.waiting.items

  -- the row with the number of its line, which is in its range, was added to that piece
  pub record AddsRow (old new : PieceFiles W) (piece : ℕ) (row : NumberedRow) : Type 0 where
    pub range : IsNumberedInRange row
    pub text : (texts later : ℕ → List ℕ) → IsLonger texts later piece (numbered_text row)
        → HoldTexts texts old → HoldTexts later new
